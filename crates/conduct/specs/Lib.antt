-- How the box conducts itself beside demand 3: `OneFrame`, `LocalRuns`, `Unread` and `Replies` have claims on one frame
-- for any state and table, the files after them further ones on runs. Read in this order.
pub mod OneFrame
pub mod LocalRuns
pub mod Unread
pub mod Replies
pub mod Homecoming
pub mod Repeats
pub mod Waiting
pub mod Arrival
pub mod Turns
pub mod RightTrack
pub mod Recorded
pub mod FewRecords
