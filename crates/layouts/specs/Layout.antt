-- A list laid out: the two pieces between its cuts take an arrangement. For the engines within a list, and their contracts. Assumes nothing.
use Rattle.std.specs.Prelude.{ℕ, ◌≤◌, Bool, false, List, ◌++◌, take, drop, get_or}
use Rattle.std.proofs.Math.Seq.{slice}
use Rattle.day.specs.declared.vehicle.RouteLimits.{RouteLimits}
use Rattle.labels.specs.Columns.{Columns}
use Rattle.labels.specs.Walk.{walk}
use Rattle.evaluation.specs.Route.{tick, home, allowed}
use Rattle.heads.specs.Head.{tour_at}
use Rattle.heads.specs.declared.Head.{Head}
use Rattle.descent.specs.Permitted.{Arrangement, seven, arranged}
use Rattle.layouts.specs.declared.Way.{Way}
use Rattle.layouts.specs.declared.Layout.{Layout}

-- the seven by their numbers, 0 to 6: the Rust's patterns 1 to 7
abbrev pub nth_way : ℕ → Arrangement
nth_way number = get_or seven number (false, false, false)

-- an arrangement as the code has it
abbrev pub arrangement : Way → Arrangement
arrangement way = (way.exchanged, way.b_turned, way.c_turned)

-- a layout by its cuts and its arrangement
abbrev pub layout : ℕ → ℕ → ℕ → Arrangement → Layout
layout b c d way = record { b = b; c = c; d = d; way = record { exchanged = way.0; b_turned = way.1; c_turned = way.2 } }

-- the pieces between the cuts take an arrangement
unfoldable pub laid : List ℕ → Layout → List ℕ
laid list p =
    take p.b list ++ arranged (arrangement p.way) (slice p.b p.c list) (slice p.c p.d list) ++ drop p.d list

-- the cuts stand in order in a list of n
pub record CutIn (n : ℕ) (p : Layout) : Type 0 where
  pub b_c : p.b ≤ p.c
  pub c_d : p.c ≤ p.d
  pub d_n : p.d ≤ n

-- whether a list passes with no break to take, driven from the end of a head that it shares
unfoldable pub passes_from : Columns → RouteLimits → ℕ → Head → List ℕ → Bool
passes_from c limits depot head list = allowed limits (home c depot (walk c (tick c) (tour_at head) (drop head.visits list)))
