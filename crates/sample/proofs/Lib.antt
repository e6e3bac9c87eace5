pub mod FromFn
