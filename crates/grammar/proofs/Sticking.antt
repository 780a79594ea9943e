-- Words passed over one by one, and where reading sticks: laws that the readers' proofs put together.
-- Assumes nothing.
use mathlib.Core.List.{List, [], ◌∷◌, ◌++◌, append_assoc}
use Prim.Native.Nat.{ℕ, ◌+◌}
use native.Mathlib.Nat.{zero-add, suc-add}
use lib.ListN.{length}
use Rattle.grammar.specs.Words.{Word}
use Rattle.grammar.specs.Grammar.{Reading, Reads, watch, enforce, now-w, count-w, not-w, and-w, or-w, eventually-w, before-w, after-w, ignoring-w, holds-e, not-e, and-e, or-e, always-e, before-e, after-e, fulfilling-e, ignoring-e, true-a, false-a, proposition-a, not_a, and-a, or-a, number}
use Rattle.grammar.specs.Productions.{Fits, Sticks, ends, misfits, later}
use Rattle.grammar.specs.Productions as fits
use Rattle.grammar.specs.declared.Category.{Category}
use Rattle.grammar.specs.declared.Category.TheVariants.{Watched, Enforced, Formula}

-- Words that fit what is to come, and what is still to come behind them.
pub data Passes : List Category → List Word → List Category → Type 0 where
  here : {s : List Category} → Passes s [] s
  on : {c : Category} {w : Word} {parts rest t : List Category} {ws : List Word} → Fits c w parts → Passes (parts ++ rest) ws t → Passes (c ∷ rest) (w ∷ ws) t

pub passes_then : {s t u : List Category} {us vs : List Word} → Passes s us t → Passes t vs u → Passes s (us ++ vs) u
passes_then here q = q
passes_then (on f p) q = on f (passes_then p q)

-- the words of a reading are passed over, whatever is to come behind them
pub reads-passes : {c : Category} {us : List Word} {x : Reading c} → Reads c us x → (rest : List Category) → Passes (c ∷ rest) us rest
reads-passes (watch a) rest = on fits.watch (reads-passes a rest)
reads-passes (enforce a) rest = on fits.enforce (reads-passes a rest)
reads-passes (now-w a) rest = on fits.now-w (reads-passes a rest)
reads-passes (count-w a) rest = on fits.count-w (reads-passes a rest)
reads-passes (not-w a) rest = on fits.not-w (reads-passes a rest)
reads-passes (and-w a b) rest = on fits.and-w (passes_then (reads-passes a (Watched ∷ rest)) (reads-passes b rest))
reads-passes (or-w a b) rest = on fits.or-w (passes_then (reads-passes a (Watched ∷ rest)) (reads-passes b rest))
reads-passes (eventually-w a) rest = on fits.eventually-w (reads-passes a rest)
reads-passes (before-w a b) rest = on fits.before-w (passes_then (reads-passes a (Watched ∷ rest)) (reads-passes b rest))
reads-passes (after-w a b) rest = on fits.after-w (passes_then (reads-passes a (Watched ∷ rest)) (reads-passes b rest))
reads-passes (ignoring-w a b) rest = on fits.ignoring-w (passes_then (reads-passes a (Watched ∷ rest)) (reads-passes b rest))
reads-passes (holds-e a) rest = on fits.holds-e (reads-passes a rest)
reads-passes (not-e a) rest = on fits.not-e (reads-passes a rest)
reads-passes (and-e a b) rest = on fits.and-e (passes_then (reads-passes a (Enforced ∷ rest)) (reads-passes b rest))
reads-passes (or-e a b) rest = on fits.or-e (passes_then (reads-passes a (Enforced ∷ rest)) (reads-passes b rest))
reads-passes (always-e a) rest = on fits.always-e (reads-passes a rest)
reads-passes (before-e a b) rest = on fits.before-e (passes_then (reads-passes a (Enforced ∷ rest)) (reads-passes b rest))
reads-passes (after-e a b) rest = on fits.after-e (passes_then (reads-passes a (Enforced ∷ rest)) (reads-passes b rest))
reads-passes (fulfilling-e k a b c) rest =
    on fits.fulfilling-e
    (passes_then (reads-passes k (Watched ∷ Enforced ∷ Enforced ∷ rest))
    (passes_then (reads-passes a (Enforced ∷ Enforced ∷ rest)) (passes_then (reads-passes b (Enforced ∷ rest)) (reads-passes c rest))))
reads-passes (ignoring-e a b) rest = on fits.ignoring-e (passes_then (reads-passes a (Enforced ∷ rest)) (reads-passes b rest))
reads-passes true-a rest = on fits.true-a here
reads-passes false-a rest = on fits.false-a here
reads-passes (proposition-a l) rest = on (fits.proposition-a l) here
reads-passes (not_a a) rest = on fits.not_a (reads-passes a rest)
reads-passes (and-a a b) rest = on fits.and-a (passes_then (reads-passes a (Formula ∷ rest)) (reads-passes b rest))
reads-passes (or-a a b) rest = on fits.or-a (passes_then (reads-passes a (Formula ∷ rest)) (reads-passes b rest))
reads-passes (number l m) rest = on (fits.number l m) here

-- behind words that are passed over, reading sticks where it sticks in the others
pub passes-sticks : {s t : List Category} {us vs : List Word} {k : ℕ} {d : Category} → Passes s us t → Sticks t vs k d → Sticks s (us ++ vs) (length us + k) d
passes-sticks here q = rw zero-add q
passes-sticks (on f p) q = rw suc-add (later f (passes-sticks p q))

pub sticks-after : {c : Category} {us vs : List Word} {x : Reading c} {rest : List Category} {k : ℕ} {d : Category}
    → Reads c us x → Sticks rest vs k d → Sticks (c ∷ rest) (us ++ vs) (length us + k) d
sticks-after {rest} r q = passes-sticks (reads-passes r rest) q

-- more to come behind changes nothing
pub sticks-under : {cs : List Category} (rest : List Category) {ws : List Word} {k : ℕ} {d : Category} → Sticks cs ws k d → Sticks (cs ++ rest) ws k d
sticks-under rest (ends o) = ends o
sticks-under rest (misfits m) = misfits m
sticks-under rest (later f q) = later f (rw append_assoc at (sticks-under rest q))
