-- What can be said of a run that is read from a reader and printed to a writer: no contract says which bytes a read of
-- a file or of a standard stream gives, but for some bytes all between the reads and what is printed is as `console`
-- has it; and where reader and writer say which bytes they have, as those over memory do, it is these.
pub mod Reading
