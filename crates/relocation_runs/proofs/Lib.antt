-- `Going`: a run under way.
mod Going
