-- The paper's examples A to L and its printed run, and books, over the definitions of the dispatcher and of runs. Read
-- in this order.
pub mod Reading
pub mod Examples
pub mod Books
