-- Which case of `press_button` holds, by the checks that pass.
use mathlib.Core.Path.{◌≡◌, sym, ap, ◌∙◌}
use mathlib.Core.Bool.{true, false}
use Prim.Native.Nat.{ℕ, ◌<◌}
use native.Mathlib.Omega.{arith}
use Rattle.common.proofs.Check.{Refuses, none, stop, pass, accepted_by, refused_by_lem}
use Rattle.line.specs.Refusal.{strange_state, not_now, at_its_end}
use Rattle.driver.specs.Types.{Message, Button}
use Rattle.driver.specs.Types.{Again, Unit}
use Rattle.driver.specs.State.{valid_unit}
use Rattle.driver.specs.Pressing.{may_press, end_permits, press_checks, silent, sending, last_sent}
use Rattle.driver.specs.Pressing.{carried_out, press_button}

module _ (u : Unit) (b : Button) where
  refused : {n : ℕ} → 0 < n → Refuses (press_checks u b) n → silent u n ≡ press_button u b
  unfolding press_button
  refused h r = refused_by_lem (carried_out u b) (silent u) h r

  pub strange : valid_unit u ≡ false → silent u strange_state ≡ press_button u b
  strange h = refused (omega arith) (stop h)

  module _ (good : valid_unit u ≡ true) where
    pub not_now_lem : may_press u b ≡ false → silent u not_now ≡ press_button u b
    not_now_lem h = refused (omega arith) (pass good (stop h))

    module _ (may : may_press u b ≡ true) where
      pub no_move : end_permits u b ≡ false → silent u at_its_end ≡ press_button u b
      no_move h = refused (omega arith) (pass good (pass may (stop h)))

      module _ (permits : end_permits u b ≡ true) where
        pub carried_out_lem : carried_out u b ≡ press_button u b
        unfolding press_button
        carried_out_lem = accepted_by (carried_out u b) (silent u) (pass good (pass may (pass permits none)))

        pub again : b ≡ Again → (x : Message) → x ≡ last_sent u → sending u x ≡ press_button u b
        unfolding carried_out
        again e x p = rw p (ap (carried_out u) (sym e) ∙ carried_out_lem)
