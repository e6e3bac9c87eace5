-- `Tables`: the table and its lists.
pub mod Tables
