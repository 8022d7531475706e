-- 02, card 7: "A state whose journal count is above 229 becomes strange, refusal 1." At 229 one frame may still add
-- seven records, and the journal has room for them: six trains have six sections of their own before them, and an
-- altered table lets them all go at once.
use Rattle.std.specs.Prelude.{◌≡◌, List, [], ◌∷◌, ◌++◌, map, ℕ, replicate}
use Rattle.common.specs.Tabulate.{values_from}
use Rattle.frame.specs.Frame.{bytes_of}
use Rattle.journal.specs.Journal.{journal_length, record_of, record_on}
use Rattle.completion.specs.Table.{table_length}
use Rattle.rules.specs.State.{counting}
use Rattle.assurance.specs.Types.{Message, State, Sent, RefusedBy}
use Rattle.assurance.specs.Run.{Ran}
use Rattle.examples.specs.Reading.{fa, fe, afe, am, opened_blank, ran_with, ran_from, verdicts_of, replies_in}
use Rattle.examples.specs.Books.{book_of}
use Rattle.cases.specs.Further.{lent_record, lending}
use Rattle.counting.specs.Limit.{lent_records}

-- eight posts with four tracks each; trains from 0, 1 and 2 up to 3, and from 7, 6 and 5 down to 4
abbrev pub book_spread : List ℕ
book_spread = book_of 23 1 8 (replicate 8 4) 6 (0 ∷ 3 ∷ 1 ∷ 3 ∷ 2 ∷ 3 ∷ 7 ∷ 4 ∷ 6 ∷ 4 ∷ 5 ∷ 4 ∷ [])

-- tables with every bit and with none: under the one whoever has a section and a track goes, under the other nobody
abbrev pub every_bit : List ℕ
every_bit = replicate table_length 255

abbrev pub no_bit : List ℕ
no_bit = replicate table_length 0

-- trains 1 to 5 ask
abbrev pub five_ask : List Message
five_ask = fa 1 1 2 ∷ fa 2 2 3 ∷ fa 3 7 6 ∷ fa 4 6 5 ∷ fa 5 5 4 ∷ []

-- they are declined while train 0 runs, and while it is Free
abbrev pub beside_a_running : Ran
beside_a_running =
    ran_from (ran_from (opened_blank book_spread).state every_bit (bytes_of (fa 0 0 1) ∷ [])).state no_bit
    (map bytes_of five_ask)

abbrev pub beside_a_free : Ran
beside_a_free = ran_from (opened_blank book_spread).state no_bit (map bytes_of five_ask)

-- so many records counted, a table with every bit, and a journal of records no two alike: what comes then
abbrev pub ran_at : ℕ → State → List Message → Ran
ran_at n s messages =
    ran_with (counting s n) every_bit (lent_records journal_length) (map lending (map bytes_of messages))

-- train 0 arrives, and then asks
abbrev pub five_granted : Ran
five_granted = ran_at 229 beside_a_running.state (am 0 0 1 ∷ fa 0 1 2 ∷ [])

pub record FiveGranted : Type 0 where
  pub declined : replies_in beside_a_running
      ≡ (afe 1 1 2 ∷ []) ∷ (afe 2 2 3 ∷ []) ∷ (afe 3 7 6 ∷ []) ∷ (afe 4 6 5 ∷ []) ∷ (afe 5 5 4 ∷ []) ∷ []
  -- at 229 all five go; what that leaves "becomes strange, refusal 1"
  pub verdicts : verdicts_of five_granted ≡ Sent 5 ∷ RefusedBy 1 ∷ []
  pub replies : replies_in five_granted ≡ (fe 1 1 2 ∷ fe 2 2 3 ∷ fe 3 7 6 ∷ fe 4 6 5 ∷ fe 5 5 4 ∷ []) ∷ [] ∷ []
  -- one record is left
  pub count : five_granted.state.logged ≡ 235
  pub journal : five_granted.journal
      ≡ lent_records 229
      ++ (record_of (am 0 0 1) ∷ record_on 2 (fe 1 1 2) ∷ record_on 1 (fe 2 2 3) ∷ record_on 3 (fe 3 7 6)
      ∷ record_on 3 (fe 4 6 5) ∷ record_on 4 (fe 5 5 4) ∷ [])
      ++ values_from 235 1 lent_record

-- train 0 asks, and then once more
abbrev pub six_granted_at : ℕ → Ran
six_granted_at n = ran_at n beside_a_free.state (fa 0 0 1 ∷ fa 0 0 1 ∷ [])

abbrev pub six_granted : Ran
six_granted = six_granted_at 229

pub record SixGranted : Type 0 where
  -- at 229 all six go; what that leaves "becomes strange, refusal 1", and the FE is not sent again
  pub verdicts : verdicts_of six_granted ≡ Sent 6 ∷ RefusedBy 1 ∷ []
  pub replies : replies_in six_granted
      ≡ (fe 1 1 2 ∷ fe 2 2 3 ∷ fe 3 7 6 ∷ fe 4 6 5 ∷ fe 5 5 4 ∷ fe 0 0 1 ∷ []) ∷ [] ∷ []
  -- 229 and seven are the 236 of the journal: its last record is the last FE's, and none is lost
  pub count : six_granted.state.logged ≡ journal_length
  pub journal : six_granted.journal
      ≡ lent_records 229
      ++ (record_of (fa 0 0 1) ∷ record_on 2 (fe 1 1 2) ∷ record_on 1 (fe 2 2 3) ∷ record_on 3 (fe 3 7 6)
      ∷ record_on 3 (fe 4 6 5) ∷ record_on 4 (fe 5 5 4) ∷ record_on 2 (fe 0 0 1) ∷ [])
  -- from 222 seven records lead to 229, which is not strange, and from 223 to 230, which is
  pub edge : map (λ n. verdicts_of (six_granted_at n)) (222 ∷ 223 ∷ [])
      ≡ (Sent 6 ∷ Sent 1 ∷ []) ∷ (Sent 6 ∷ RefusedBy 1 ∷ []) ∷ []
