-- The declared types that the definitions speak of, under one module.
pub use Rattle.rules.specs.declared.state.Train.{Train}
pub use Rattle.rules.specs.declared.state.State.{State}
pub use Rattle.holding.specs.declared.holding.Holders.{Holders}
