-- How each call comes out, by the tests that the code makes, and the proofs of the claims of `specs/`.
pub mod UnitSteps
pub mod BoxSteps
pub mod PlanningSteps
pub mod PlaceSteps
pub mod HandedOn
pub mod CallRuns
pub mod TimeTold
pub mod PlaceTold
