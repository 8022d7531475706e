-- What the console prints of the bytes that were read.
use Rattle.descriptor.proofs.Parts.{transcript_of_lem}
use Rattle.descriptor.proofs.serving.transcript.Goals as goal

pub returns : goal.returns
returns g c =
    let all = transcript_of_lem _ _ _ _ _ c.read_all-console.ensures.given c.printed.ensures.value in
    record { length_le_text_length = c.printed.ensures.length_le_text_length; transcript = all.text; given = all }
