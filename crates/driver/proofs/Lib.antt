-- `Phases` and `Numbers` have laws of the state. `Buttons` and `Frames` say which case of a definition holds, and
-- `Outcomes` turns the definitions round. `Validity`, `Refusals` and `History` prove the claims of `specs/`, the latter
-- by way of `Events` and `Past`.
pub mod Phases
pub mod Numbers
pub mod Buttons
pub mod Frames
pub mod Outcomes
pub mod Validity
pub mod Refusals
pub mod Events
pub mod Past
pub mod History
