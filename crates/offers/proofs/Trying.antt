-- One visit offered to one list, with what is known of it: where the known least insertion leaves no gain that counts, none of these candidates counts, since
-- rounded sums keep the order; else the scan is the definition's, and what it finds is the least. So the loop over the visits of a list finds the pair's
-- best, and the cache stays right. Assumes nothing.
use mathlib.Core.Path.{◌≡◌, refl, sym, ap, ◌∙◌}
use mathlib.Core.Logic.{◌≢◌}
use mathlib.Core.Bool.{Bool, true, false, cond, not, ◌&&◌, false≢true}
use mathlib.Core.Option.{Option, none, some}
use mathlib.Core.List.{List, [], ◌∷◌, map}
use Prim.Native.Nat.{ℕ, suc, ◌+◌, ◌≤◌, ◌<◌}
use native.Mathlib.Omega.{arith}
use borrow.Author.Tests.{ltb-true, ltb-false}
use lib.Dec.{T, ltb}
use lib.IntN.{ℤ}
use lib.ListN.{length, get_or}
use lib.Ieee.{Float, nan, inf, fin, binary64, add, lt, le, neg, is_nan}
use lib.Ieee.Scale.{finite}
use Rattle.numbers.specs.Operations.{◌⊕◌}
use Rattle.numbers.proofs.Total as Total
use Rattle.numbers.proofs.Mono.{finite-not-nan, prune_any}
use Rattle.day.specs.Matrix.{leg}
use Rattle.edits.specs.Total.{total}
use Rattle.lists.specs.Table.{lists, list_of}
use Rattle.lists.proofs.Tables.{at_lists, length_list}
use Rattle.labels.specs.Columns.{Columns}
use Rattle.descent.specs.Order.{range, each, ◌∈◌, here, there}
use Rattle.descent.specs.Across.{at, Relocation}
use Rattle.descent.proofs.Members.{T_true, true-T, and_parts, map_in, range_in}
use Rattle.deltas.specs.Deltas.{stop_at, removal_delta, relocate_delta}
use Rattle.deltas.proofs.Stops.{get_or_any}
use Rattle.loads.specs.Loads.{boxes_of, Held}
use Rattle.loads.proofs.Tables.{visit_below}
use Rattle.descent.specs.Scan.{onward, figure, Counted}
use Rattle.pairs.specs.Pairs.{move_of, nothing}
use Rattle.pairs.specs.declared.Choice.{Choice}
use Rattle.descent.proofs.Scanning.{onward_stays, onward_end}
use Rattle.pairs.proofs.Taken.{best-across}
use Rattle.insertions.specs.Cache.{LeastAt, known_at, Noted, least_below}
use Rattle.places.specs.Places.{Prepared, ruled_out, best_among}
use Rattle.places.specs.declared.Setup.{Setup}
use Rattle.places.specs.declared.Tried.{Tried}
use Rattle.relocations.specs.Relocations.{BestOf}
use Rattle.relocations.proofs.Scanning.{into_list, Best, Scanned, none_yet, Scanning, scanning_start, scanning_turn, scanning_end}
use Rattle.offers.specs.Offers.{judge_of, bound, terms_of, Cached}
use Rattle.visit_offers.specs.Tried.{cost_of, offer_of, tried}
use Rattle.insertions.specs.declared.Least.{Least}
use Rattle.insertions.specs.declared.Insertions.{Insertions}
use Rattle.insertions.proofs.Reached.{scan_reaches}
use Rattle.insertions.proofs.Cached.{noted}
use Rattle.offers.proofs.Choosing.{refused_as, offered_as}

-- ---- candidates that don't count

module _ {C : Type 0} (delta : C → Float) (pass : C → Bool) (limit : Float) where
  dull_one : (o : Option C) (c : C) → Counted delta pass limit o → lt (delta c) limit ≡ false → (lt (delta c) (figure delta pass limit o) && pass c) ≡ false
  unfolding figure Counted
  dull_one none c u e = rw e
  dull_one (some best) c u e = first (lt (delta c) (delta best)) refl
    where
      first : (b : Bool) → lt (delta c) (delta best) ≡ b → (b && pass c) ≡ false
      first false g = refl
      first true g =
          let t = Total.lt_trans (delta c) (delta best) limit (true-T (lt (delta c) (delta best)) g) (true-T (lt (delta best) limit) u) in
          absurd (false≢true (sym e ∙ T_true (lt (delta c) limit) t))

  -- they change nothing
  onward_dull : (o : Option C) (cs : List C) → Counted delta pass limit o → ((c : C) → c ∈ cs → lt (delta c) limit ≡ false) → onward delta pass limit o cs ≡ o
  onward_dull o [] u h = onward_end delta pass limit o
  onward_dull o (c ∷ cs) u h = onward_stays delta pass limit o c cs (dull_one o c u (h c here)) ∙ onward_dull o cs u (λ d i. h d (there i))

-- a sum with what is not a number is none, and isn't below anything
no_sum : (x limit : Float) → lt (x ⊕ nan) limit ≡ false
unfolding add lt
no_sum nan limit = refl
no_sum (inf s) limit = refl
no_sum (fin s m e) limit = refl

not_T : (b : Bool) → b ≡ false → T (not b)
not_T b e = rw e tt

T_not : (b : Bool) → T (not b) → b ≡ false
T_not true h = absurd h
T_not false h = refl

-- whatever the removal changes: where the known least leaves no gain, no cost that isn't below it leaves one
no_gain : (removal known cost limit : Float) → T (finite known) → lt cost known ≡ false → T (le limit (removal ⊕ known)) → lt (removal ⊕ cost) limit ≡ false
unfolding is_nan
no_gain removal known nan limit f e h = no_sum removal limit
no_gain removal known (inf s) limit f e h =
    let above = Total.not_lt→le (inf s) known tt (finite-not-nan known f) (not_T (lt (inf s) known) e) in
    T_not (lt (removal ⊕ inf s) limit) (prune_any binary64 removal known (inf s) limit f above h)
no_gain removal known (fin s m d) limit f e h =
    let above = Total.not_lt→le (fin s m d) known tt (finite-not-nan known f) (not_T (lt (fin s m d) known) e) in
    T_not (lt (removal ⊕ fin s m d) limit) (prune_any binary64 removal known (fin s m d) limit f above h)

-- ---- one visit

module _ (c : Columns) (demand : List ℤ) (s : Setup) (visits lengths : List ℕ) (from position to : ℕ) (prepared : Prepared s c)
    (held : Held c.l visits lengths) (visit-there : position < get_or lengths from 0)
    (X Y : List ℕ) (is-giver : X ≡ list_of visits lengths from) (is-receiver : Y ≡ list_of visits lengths to) (load : ℕ)
    (is-load : load ≡ total (boxes_of demand) Y) (best : Choice) (b : Best (terms_of c demand s) (lists visits lengths) best) where
  abbrev ls : List (List ℕ)
  ls = lists visits lengths

  abbrev visit : ℕ
  visit = get_or X position 0

  abbrev removal : Float
  removal = removal_delta (leg c.l c.distances) s.depot s.fixed X position

  abbrev move : ℕ → Relocation
  move place = record { from = from; position = position; to = to; place = place }

  the_delta : (place : ℕ) → (judge_of c s).delta ls (move place) ≡ removal ⊕ cost_of c s Y visit place
  unfolding judge_of relocate_delta stop_at
  the_delta place =
      let long : position < length (list_of visits lengths from) = rw (length_list visits lengths held.laid.add_up from) visit-there in
      rw (at_lists visits lengths from, at_lists visits lengths to, is-giver, is-receiver, get_or_any (list_of visits lengths from) position s.depot 0 long)

  -- what was known, or is, is right
  abbrev Right : Least → Type 0
  Right l = T (finite l.figure) → LeastAt (cost_of c s Y visit) (suc (length Y)) l.figure l.place

  pub record Tries (t : Tried) : Type 0 where
    pub scanned : Scanned (terms_of c demand s) (lists visits lengths) (into_list ls from position to) best t.best
    pub right : Right t.least

  ruled : (known : Least) → Right known → ruled_out s.pruning s.floor removal known.figure ≡ true
      → Scanned (terms_of c demand s) (lists visits lengths) (into_list ls from position to) best best
  unfolding ruled_out into_list
  ruled known right e = record {
    scanned = sym (onward_dull _ _ _ (move_of best) _ b.counted dull);
    still = b;
  }
    where
      parts : (finite known.figure ≡ true) × (le (neg s.floor) (removal ⊕ known.figure) ≡ true)
      parts =
          let whole = and_parts s.pruning (finite known.figure && le (neg s.floor) (removal ⊕ known.figure)) e in
          and_parts (finite known.figure) (le (neg s.floor) (removal ⊕ known.figure)) whole.1

      dull : (m : Relocation) → m ∈ map move (range 0 (suc (length (at (lists visits lengths) to))))
          → lt ((judge_of c s).delta (lists visits lengths) m) (bound s) ≡ false
      dull m i =
          let p = map_in move (range 0 (suc (length (at (lists visits lengths) to)))) m i in
          let f = true-T (finite known.figure) parts.0 in
          let same : at (lists visits lengths) to ≡ Y = at_lists visits lengths to ∙ sym is-receiver in
          let inside : p.0 < suc (length (at (lists visits lengths) to)) = (range_in 0 (suc (length (at (lists visits lengths) to))) p.0 p.1).1 in
          let long : length (at (lists visits lengths) to) ≡ length Y = ap length same in
          let near : p.0 < suc (length Y) = omega (arith, inside, long) in
          let low = (right f).least p.0 near in
          let limit = true-T (le (neg s.floor) (removal ⊕ known.figure)) parts.1 in
          let none = no_gain removal known.figure (cost_of c s Y visit p.0) (neg s.floor) f low limit in
          rw (← p.2, the_delta p.0) none

  pub tries : (known : Least) → Right known → Tries (tried c demand s X Y load from position to best known)
  unfolding tried
  tries known right =
      go (ltb s.capacity (load + boxes_of demand visit)) refl (ruled_out s.pruning s.floor removal known.figure) refl
    where
      go : (u : Bool) → ltb s.capacity (load + boxes_of demand visit) ≡ u → (w : Bool) → ruled_out s.pruning s.floor removal known.figure ≡ w
          → Tries (cond u (record { best = best; least = known }) (cond w (record { best = best; least = known })
          (record {
            best = best_among c s Y (offer_of c s X from position to) (range 0 (suc (length Y))) best;
            least = least_below (cost_of c s Y visit) (suc (length Y));
          })))
      go true e w g = record {
        scanned = refused_as c demand s visits lengths from position to prepared held visit-there X Y is-giver is-receiver visit load
            (boxes_of demand visit) refl is-load refl best b (ltb-true s.capacity (load + boxes_of demand visit) e);
        right = right;
      }
      go false e true g = record { scanned = ruled known right g; right = right }
      go false e false g = record {
        scanned = offered_as c demand s visits lengths from position to prepared held visit-there X Y is-giver is-receiver visit load
            (boxes_of demand visit) refl is-load refl best b (ltb-false s.capacity (load + boxes_of demand visit) e) removal _ refl refl;
        right = scan_reaches (cost_of c s Y visit) (suc (length Y));
      }

-- ---- all visits of a list

module _ (c : Columns) (demand : List ℤ) (s : Setup) (visits lengths : List ℕ) (from to : ℕ) (X : List ℕ) where
  -- the candidates of the visits from here on
  abbrev pub left : ℕ → List Relocation
  left position = each (range position (length X)) (λ p. into_list (lists visits lengths) from p to)

  -- so far: the scan over what is left comes to the pair's best, and the cache is right
  pub record Pairing (first : Choice) (position : ℕ) (best : Choice) (cache : Insertions) : Type 0 where
    pub scanning : Scanning (terms_of c demand s) (lists visits lengths) (left position) (left 0) first best
    pub cached : Cached c s (lists visits lengths) cache

module _ (c : Columns) (demand : List ℤ) (s : Setup) (visits lengths : List ℕ) (from to : ℕ) (prepared : Prepared s c)
    (held : Held c.l visits lengths) (X Y : List ℕ) (is-giver : X ≡ list_of visits lengths from) (is-receiver : Y ≡ list_of visits lengths to) where
  abbrev ahead : ℕ → List Relocation
  ahead = left c demand s visits lengths from to X

  abbrev So : Choice → ℕ → Choice → Insertions → Type 0
  So = Pairing c demand s visits lengths from to X

  module _ (load : ℕ) (is-load : load ≡ total (boxes_of demand) Y) (takes : to < length lengths) (first best : Choice) (position : ℕ)
      (cache : Insertions) (w : So first position best cache) (h : position < length X) where
    abbrev this : Tried
    this = tried c demand s X Y load from position to best (known_at cache (get_or X position 0) to)

    pub pairing_turn : (after : Choice) (cache' : Insertions) → after ≡ this.best → Noted (get_or X position 0) to this.least cache cache'
        → So first (position + 1) after cache'
    pairing_turn after cache' is-best is-noted = rw is-best (record {
      scanning = scanning_turn (terms_of c demand s) (lists visits lengths) _ position (length X) (ahead 0) first best w.scanning this.best h t.scanned;
      cached = noted (cost_of c s) c.l (lists visits lengths) cache cache' w.cached to few (get_or X position 0) this.least (rw here_now t.right) is-noted;
    })
      where
        few : to < 16
        few = omega (arith, held.laid.few)

        there : position < get_or lengths from 0
        there = rw (is-giver, length_list visits lengths held.laid.add_up from) at h

        below : get_or X position 0 < c.l
        below = rw is-giver (visit_below c.l visits lengths held from position there)

        here_now : get_or (lists visits lengths) to [] ≡ Y
        here_now = at_lists visits lengths to ∙ sym is-receiver

        known-right : T (finite (known_at cache (get_or X position 0) to).figure)
            → LeastAt (cost_of c s Y (get_or X position 0)) (suc (length Y)) (known_at cache (get_or X position 0) to).figure
            (known_at cache (get_or X position 0) to).place
        known-right = rw here_now at (w.cached.known (get_or X position 0) to below few)

        t : Tries c demand s visits lengths from position to prepared held there X Y is-giver is-receiver load is-load best w.scanning.still this
        t = tries c demand s visits lengths from position to prepared held there X Y is-giver is-receiver load is-load best w.scanning.still
            (known_at cache (get_or X position 0) to) known-right

  pub pairing_start : (cache : Insertions) → Cached c s (lists visits lengths) cache → (first : Choice) → first ≡ nothing (bound s) → So first 0 first cache
  pairing_start cache k first e = rw e (record {
    scanning = scanning_start (terms_of c demand s) (lists visits lengths) (ahead 0) (nothing (bound s)) (none_yet (terms_of c demand s) (lists visits lengths));
    cached = k;
  })

  pub pairing_end : (first : Choice) → first ≡ nothing (bound s) → (position : ℕ) (best : Choice) (cache : Insertions) → So first position best cache
      → from ≢ to → length X ≤ position
      → BestOf (terms_of c demand s) (lists visits lengths) from to best
  unfolding move_of into_list
  pairing_end first e position best cache w apart h =
      let done : Scanned (terms_of c demand s) (lists visits lengths) (ahead 0) (nothing (bound s)) best
      = rw e at (scanning_end (terms_of c demand s) (lists visits lengths) _ position (length X) (ahead 0) first best w.scanning h) in
      let whole : X ≡ at (lists visits lengths) from = is-giver ∙ sym (at_lists visits lengths from) in
      best-across _ _ _ _ from to best apart (rw whole at done.scanned) done.still.figured
