-- Where a train is, and the sets of holders and of the tracks that they hold.
pub mod Located
pub mod TrackSets
pub mod HolderSets
