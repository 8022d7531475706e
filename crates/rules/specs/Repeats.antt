-- Repeats over bad radio, 02, card 6: which frames are repeats, and all that their answer is, for every state that is
-- handed in, every table, right or altered, and every journal and out buffer.
use Rattle.std.specs.Prelude.{◌≡◌, ◌≢◌, true, List, [], ◌∷◌, ℕ, ◌<◌, length}
use Rattle.common.specs.Part.{replaced}
use Rattle.line.specs.Route.{next_post, between}
use Rattle.rules.specs.Types.{Message, Fa, Fe, Afe, Am, Move, Record, None, Some, PostNo, State, Sent}
use Rattle.rules.specs.State.{is_asked, is_running, train_of}
use Rattle.rules.specs.Valid.{consistent}
use Rattle.rules.specs.Answer.{frames_of, Answer}
use Rattle.rules.specs.Refusals.{Handed, answer_to, RefusedAs, of_train, Reads, named, NamesNext}

-- "neither is logged or changes the state": the answers' frames are written, and all else is as it was
abbrev pub told_again : State → List Record → List ℕ → List Message → Answer
told_again s journal out answers = record {
  state = s;
  verdict = Sent (length answers);
  number = 0;
  frames = length answers;
  journal = journal;
  out = replaced out 0 (frames_of answers);
}

abbrev pub AnsweredBy : Handed → List Message → Type 0
AnsweredBy h answers = answer_to h ≡ told_again h.state h.journal h.out answers

-- the train came to its post by the one-post move from p to q, towards its end
pub record CameBy (start end at p q : ℕ) : Type 0 where
  pub to : q ≡ at
  pub towards : next_post p end ≡ q
  pub on : between start p end ≡ true
  pub short : p ≢ end

pub record RepeatsAnswered : Type 0 where
  -- "a repeated FA gets its AFE or FE again": an FA for the next move of a train that is Asked or Running
  pub declined : (h : Handed) (m : Move) → NamesNext h (Fa m) → is_asked (named h (Fa m)).status ≡ true
      → AnsweredBy h (Afe m ∷ [])
  pub authorised : (h : Handed) (m : Move) → NamesNext h (Fa m) → is_running (named h (Fa m)).status ≡ true
      → AnsweredBy h (Fe m ∷ [])
  -- "an AM naming the train's last finished move is taken with no output", wherever the train is by now and whatever
  -- its status
  pub arrived : (h : Handed) (m : Move) → Reads of_train h (Am m) → m.train.0 < h.state.trains
      → (named h (Am m)).last ≡ Some (m.from, m.to) → AnsweredBy h []
  -- "Refusals 10 and 11 go": whatever is handed in
  pub ten_gone : (h : Handed) → RefusedAs 10 h → ⊥
  pub eleven_gone : (h : Handed) → RefusedAs 11 h → ⊥
  -- "in a sound state none at its start, else the one-post move towards its end that reached the present post"
  pub none_at_start : (s : State) (t : ℕ) → consistent s ≡ true → t < s.trains
      → (train_of s t).at.0 ≡ (train_of s t).route.start.0 → (train_of s t).last ≡ None
  pub one_past_start : (s : State) (t : ℕ) → consistent s ≡ true → t < s.trains
      → let x = train_of s t in
      x.at.0 ≢ x.route.start.0 → (p q : PostNo)
      × (x.last ≡ Some (p, q)) × CameBy x.route.start.0 x.route.end.0 x.at.0 p.0 q.0
