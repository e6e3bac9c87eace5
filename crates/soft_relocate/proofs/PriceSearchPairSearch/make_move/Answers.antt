-- `make_move`: the lists are laid out as before.
use mathlib.Core.Path.{refl}
use Rattle.loads.proofs.Tables.{still_held}
use Rattle.soft_relocate.proofs.PriceSearchPairSearch.make_move.Goals as goal

pub returns-clause-still : goal.returns-clause-still
returns-clause-still c = (
  refl,
  record {
    prepared = c.requires.is_ready.prepared;
    loaded = c.requires.is_ready.loaded;
    held = still_held _ _ _ _ _ _ c.move_visit.ensures c.requires.is_ready.held;
  },
)
