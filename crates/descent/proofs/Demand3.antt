-- Demand 3, whichever of the five engines runs: one run, one claim, one theorem, from one hypothesis on how its candidates are judged.
-- Assumes nothing.
use Prim.Native.Nat.{ℕ, ◌≤◌}
use Rattle.descent.specs.Sum.{Roads}
use Rattle.descent.specs.Permitted.{Checks, Engine, two_opt, three_opt, or_opt, tail_exchange, relocate, State}
use Rattle.descent.specs.Search.{Judge}
use Rattle.descent.specs.Engines.{Move, run_of}
use Rattle.descent.specs.Claim.{Claim, handed}
use Rattle.descent.proofs.Claims.{Faithful, Exact, claim}
use Rattle.descent.proofs.TwoOpt.{two_opt_faithful}
use Rattle.descent.proofs.ThreeOpt.{three_opt_faithful}
use Rattle.descent.proofs.OrOpt.{or_opt_faithful}
use Rattle.descent.proofs.TailExchange.{tail_exchange_faithful}
use Rattle.descent.proofs.Relocate.{relocate_faithful}

-- Or-opt's last position is in the list
abbrev pub Proper : Engine → Type 0
Proper two_opt = Unit {0}
Proper three_opt = Unit {0}
Proper (or_opt last) = (n p : ℕ) → last n p ≤ n
Proper tail_exchange = Unit {0}
Proper (relocate giver-tested) = Unit {0}

pub faithful : (e : Engine) (checks : Checks) → Proper e → Faithful e checks
faithful two_opt checks p = two_opt_faithful checks
faithful three_opt checks p = three_opt_faithful checks
faithful (or_opt last) checks p = or_opt_faithful last p checks
faithful tail_exchange checks p = tail_exchange_faithful checks
faithful (relocate giver-tested) checks p = relocate_faithful giver-tested checks

-- DEMAND 3
pub demand_3 : {Value : Type 0} (e : Engine) (roads : Roads) (checks : Checks) (judge : Judge (State e) (Move e) Value) (lent : State e) (limit : ℕ)
    → Proper e → Exact e roads checks judge lent
    → let r = run_of e checks judge limit lent in
    Claim e roads checks limit lent r.last.now (handed e r.last.now) r.moves r.word
demand_3 e roads checks judge lent limit proper exact = claim e roads checks judge lent (faithful e checks proper) exact limit
