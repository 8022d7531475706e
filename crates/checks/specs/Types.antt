-- The declared types that the definitions speak of, under one module.
pub use Rattle.line.specs.declared.sorts.TrainNo.{TrainNo}
pub use Rattle.line.specs.declared.refusal.Refusal.{Refusal}
pub use Rattle.line.specs.declared.refusal.Refusal.TheVariants.{UnknownTrain}
pub use Rattle.frame.specs.declared.message.Move.{Move}
pub use Rattle.frame.specs.declared.message.Message.{Message}
pub use Rattle.frame.specs.declared.message.Message.TheVariants.{Fa, Fe, Afe, Am, La, Le, Lb, Refused}
pub use Rattle.rules.specs.declared.state.Status.{Status}
pub use Rattle.rules.specs.declared.state.Status.TheVariants.{Free, Asked, Running}
pub use Rattle.rules.specs.declared.state.Train.{Train}
pub use Rattle.rules.specs.declared.state.State.{State}
