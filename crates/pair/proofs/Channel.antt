-- What the channel delivers: `specs/Channel.antt`, proved. A frame's number among those sent is as good as the frame.
use mathlib.Core.Path.{◌≡◌, refl}
use mathlib.Core.Bool.{Bool, true, false, cond, ◌&&◌}
use mathlib.Core.List.Memᴰ
use mathlib.Core.List.{List, [], ◌∷◌, ◌++◌, Memᴰ}
use Prim.Native.Nat.{ℕ}
use native.Mathlib.Omega.{arith}
use lib.Dec.{ltb}
use lib.ListN.{length, get_or, length-append}
use borrow.Author.Tests.{ltb-true, lt-ltb, le-ltb}
use Rattle.common.proofs.Tests.{and_left, and_right}
use Rattle.common.proofs.Members.{member, numbered}
use Rattle.frame.specs.Frame.{read_frame}
use Rattle.rules.specs.Refusals.{of_gang}
use Rattle.pair.specs.Pair.{Pair, PairEvent, pressed, called, to_unit, to_box, PairStep, at_box, at_unit}
use Rattle.pair.specs.Pair.{from_gang, nowhere, step_of, stepped}
use Rattle.pair.specs.Channel.{MayHappen, to_box_lem, button, to_unit_lem, call, none, Channel}

-- where a test passes, what comes of it
unless : {p : Pair} (b : Bool) (s : PairStep) → (b ≡ true → MayHappen p s) → MayHappen p (cond b s nowhere)
unless true s h = h refl
unless false s h = none

pub happens : (p : Pair) (e : PairEvent) → MayHappen p (step_of p e)
happens p (pressed t b) = unless (ltb t p.box.trains) _ (λ k. button t b (ltb-true _ _ k))
happens p (called f) = unless (of_gang (read_frame f)) _ (λ k. call f k)
happens p (to_unit n t) = unless (ltb n (length p.sent) && ltb t p.box.trains) _ (λ k.
    to_unit_lem t _ (ltb-true _ _ (and_right (ltb n (length p.sent)) _ k))
    (member [] p.sent n (ltb-true _ _ (and_left (ltb n (length p.sent)) _ k))))
happens p (to_box n out) = unless (ltb n (length p.sent)) _ (λ k. to_box_lem _ (member [] p.sent n (ltb-true _ _ k)))

event_of_lem : (p : Pair) (s : PairStep) → MayHappen p s → (e : PairEvent) × (step_of p e ≡ s)
event_of_lem p s (to_box_lem i m) =
    let r = numbered [] p.sent i.frame m in
    (to_box r.number i.out, rw (lt-ltb _ _ r.below, r.there))
event_of_lem p s (button t b k) = (pressed t b, rw (lt-ltb _ _ k))
event_of_lem p s (to_unit_lem t f k m) =
    let r = numbered [] p.sent f m in
    (to_unit r.number t, rw (lt-ltb _ _ r.below, lt-ltb _ _ k, r.there))
event_of_lem p s (call f k) = (called f, rw k)
event_of_lem p s none = (to_box (length p.sent) [], rw (le-ltb (length p.sent) (length p.sent) (omega arith)))

pub more_sent : (table : List ℕ) (p : Pair) (s : PairStep) (f : List ℕ) → Memᴰ f p.sent
    → Memᴰ f (stepped table p s).sent
unfolding stepped
more_sent table p (at_box i) f h = Memᴰ.append_left _ h
more_sent table p (at_unit t c) f h = Memᴰ.append_left _ h
more_sent table p (from_gang g) f h = Memᴰ.append_left _ h
more_sent table p nowhere f h = h

-- the last frame sent has the number of those before it
last_sent_lem : (sent : List (List ℕ)) (f : List ℕ) → get_or (sent ++ f ∷ []) (length sent) [] ≡ f
last_sent_lem [] f = refl
last_sent_lem (g ∷ sent) f = last_sent_lem sent f

at_once : (table : List ℕ) (p : Pair) (f out : List ℕ)
    → step_of (stepped table p (from_gang f)) (to_box (length p.sent) out) ≡ at_box (record { frame = f; out = out })
unfolding stepped
at_once table p f out =
    let long = length-append p.sent (f ∷ []) in
    rw (lt-ltb (length p.sent) (length (p.sent ++ f ∷ [])) (omega (arith, long)), last_sent_lem p.sent f)

pub channel : Channel
channel = record { only = happens; any = event_of_lem; stays = more_sent; at_once = at_once }
