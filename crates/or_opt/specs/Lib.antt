pub mod OrOpt
