-- Laws of an input that is read in parts.
use mathlib.Core.Path.{◌≡◌, refl, sym, ap, ◌∙◌}
use mathlib.Core.List.{List, [], ◌++◌, append_assoc}
use Prim.Native.Nat.{ℕ}
use lib.ListN.{take}
use Rattle.std.specs.Prelude.{Option, None, Some, Result, Ok, Err}
use Rattle.std.specs.Result.{result_unwrap_or}
use Rattle.std.specs.Io.KnownBytes.{Keeps, Consumes, ReadConsumes}
use Rattle.printout.specs.Text.{Text, text_of}
use Rattle.console.specs.declared.console.Console.{Console}
use Rattle.console.specs.Console.{Desk, desk_of, fresh_console, taken_bytes, finished}
use Rattle.console.specs.Transcript.{fresh_desk, printed}
use Rattle.console.proofs.Transcript.{transcribes}
use Rattle.descriptor.specs.Reading.{TakesOf, EndsOf, TranscriptOf}

-- ---- what a reader has yet to give

gives_none : (known left : Option (List ℕ)) → Keeps known left → Consumes known left []
gives_none None left k = tt
gives_none (Some xs) None k = k
gives_none (Some xs) (Some ys) k = sym k

stays : (known : Option (List ℕ)) → Keeps known known
stays None = tt
stays (Some xs) = refl

gives_more : (a b c : Option (List ℕ)) (p q : List ℕ) → Consumes a b p → Consumes b c q → Consumes a c (p ++ q)
gives_more None b c p q h k = tt
gives_more (Some xs) None c p q h k = absurd h
gives_more (Some xs) (Some ys) None p q h k = k
gives_more (Some xs) (Some ys) (Some zs) p q h k = h ∙ ap (λ (l : List ℕ). p ++ l) k ∙ sym (append_assoc p q zs)

-- a read gives the bytes that it counts, and one that fails gives none
gives_read : {E : Type 0} (known left : Option (List ℕ)) (r : Result ℕ E) (buf : List ℕ) → ReadConsumes known left r buf
    → Consumes known left (take (result_unwrap_or r 0) buf)
gives_read known left (Ok n) buf h = h.0
gives_read known left (Err e) buf h = gives_none known left h

-- ---- one part after the other

pub takes_none : (known : Option (List ℕ)) (d : Desk) → TakesOf known known d d
takes_none known d = record {
  part = record { bytes = []; took = refl };
  gave = gives_none known known (stays known);
}

pub takes_more : (k l m : Option (List ℕ)) (a b c : Desk) → TakesOf k l a b → TakesOf l m b c → TakesOf k m a c
takes_more k l m a b c p q = record {
  part =
      record {
        bytes = p.part.bytes ++ q.part.bytes;
        took =
            q.part.took ∙ ap (λ (d : Desk). taken_bytes d q.part.bytes) p.part.took
            ∙ sym (transcribes.parts a p.part.bytes q.part.bytes);
      };
  gave = gives_more k l m p.part.bytes q.part.bytes p.gave q.gave;
}

-- what a read gave
pub takes_read : {E : Type 0} (known left : Option (List ℕ)) (r : Result ℕ E) (n : ℕ) (buf : List ℕ) (a b : Desk)
    → ReadConsumes known left r buf → n ≡ result_unwrap_or r 0 → b ≡ taken_bytes a (take n buf) → TakesOf known left a b
takes_read known left r n buf a b h e t = record {
  part = record { bytes = take n buf; took = t };
  gave = rw e (gives_read known left r buf h);
}

-- then the end
pub then_ends : (k l : Option (List ℕ)) (x : Console) (table : List ℕ) (b c : Desk) → x ≡ fresh_console
    → TakesOf k l (desk_of x table) b → c ≡ finished b → EndsOf k l (desk_of fresh_console table) c
then_ends k l x table b c e p f = record {
  whole =
      record {
        input = p.part.bytes;
        ended =
            f ∙ ap finished p.part.took
            ∙ ap (λ (x : Console). finished (taken_bytes (desk_of x table) p.part.bytes)) e;
      };
  gave = p.gave;
}

-- what is then printed
pub transcript_of_lem : (k l : Option (List ℕ)) (x : Console) (table : List ℕ) (t : Text)
    → EndsOf k l fresh_desk (desk_of x table) → t ≡ text_of (printed x) → TranscriptOf k l t
transcript_of_lem k l x table t p e = record {
  text =
      record {
        input = p.whole.input;
        is =
            e ∙ ap text_of (ap (λ (d : Desk). printed d.console) p.whole.ended ∙ transcribes.all p.whole.input);
      };
  gave = p.gave;
}
