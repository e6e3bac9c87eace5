-- `make_move`: the lists are laid out as before, and the cache is right of them.
use mathlib.Core.Path.{refl}
use Rattle.loads.proofs.Tables.{still_held}
use Rattle.relocate.proofs.DeltaSearchPairSearch.make_move.Goals as goal

pub returns-clause-still : goal.returns-clause-still
returns-clause-still c = (
  refl,
  record {
    prepared = c.requires.is_ready.prepared;
    loaded = c.requires.is_ready.loaded;
    held = still_held _ _ _ _ _ _ c.make_move.ensures.edited c.requires.is_ready.held;
    cached = c.make_move.ensures.known_2;
  },
)
