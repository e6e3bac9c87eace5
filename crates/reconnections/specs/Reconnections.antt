-- 3-opt's places, and its candidates there. For the contracts of src/; the engine's own definition is `three-opt` of descent. Assumes nothing.
use Rattle.std.specs.Prelude.{ℕ, ◌<◌}
use Rattle.descent.specs.Within.{Cut, Reconnection}
use Rattle.layouts.specs.Layout.{arrangement}
use Rattle.layouts.specs.declared.Way.{Way}
use Rattle.reconnections.specs.declared.Place.{Place}

-- a place of a list of n visits
pub record Inside (n : ℕ) (place : Place) : Type 0 where
  pub i_first : place.i < place.j
  pub j_next : place.j < place.k
  pub k_there : place.k < n

-- the place as the definition has it
abbrev pub cut_of : Place → Cut
cut_of place = record { i = place.i; j = place.j; k = place.k }

-- a way at a place, as a candidate
abbrev pub reconnection : Place → Way → Reconnection
reconnection place way = record { cut = cut_of place; way = arrangement way }
