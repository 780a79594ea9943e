-- Where reading a text sticks, its words leave the language, and what is to come there is what could stand there.
-- Assumes nothing.
use mathlib.Core.Path.{◌≡◌}
use mathlib.Core.List.{List, [], ◌∷◌, ◌++◌, append_assoc, append-nil}
use Prim.Native.Nat.{ℕ, zero, suc, ◌≤◌, ◌<◌}
use native.Mathlib.Decide.{dec_le}
use native.Mathlib.Omega.{arith}
use lib.ListN.{length, take}
use Rattle.grammar.specs.Words.{Word}
use Rattle.grammar.specs.Grammar.{Reading, Reads}
use Rattle.grammar.specs.Grammar as reads
use Rattle.grammar.specs.Productions.{Fits, watch, enforce, now-w, count-w, not-w, and-w, or-w, eventually-w, before-w, after-w, ignoring-w, holds-e, not-e, and-e, or-e, always-e, before-e, after-e, fulfilling-e, ignoring-e, true-a, false-a, proposition-a, not_a, and-a, or-a, number}
use Rattle.grammar.specs.Productions.{Misfit, Sticks, ends, misfits, later}
use Rattle.grammar.specs.Language.{InLanguage, Completable, Spot, Expects}
use Rattle.grammar.specs.declared.Category.{Category}
use Rattle.grammar.specs.declared.Category.TheVariants.{Text, Watched, Enforced, Formula, Number, End}
use Rattle.grammar.proofs.Fitting.{fits-parts}
use Rattle.grammar.proofs.Sticking.{Passes, here, on, passes_then, reads-passes}

-- Words read as categories one behind the other; of the end there is no word.
data ReadsAll : List Category → List Word → Type 0 where
  nothing : ReadsAll [] []
  part : {c : Category} {x : Reading c} {us vs : List Word} {rest : List Category} → Reads c us x → ReadsAll rest vs → ReadsAll (c ∷ rest) (us ++ vs)
  end : {ws : List Word} {rest : List Category} → ReadsAll rest ws → ReadsAll (End ∷ rest) ws

-- a word before what is read as its parts
produced : {c : Category} {w : Word} {parts rest : List Category} {ws : List Word} → Fits c w parts → ReadsAll (parts ++ rest) ws → ReadsAll (c ∷ rest) (w ∷ ws)
produced watch (part a r) = part (reads.watch a) r
produced enforce (part a r) = part (reads.enforce a) r
produced now-w (part a r) = part (reads.now-w a) r
produced count-w (part a r) = part (reads.count-w a) r
produced not-w (part a r) = part (reads.not-w a) r
produced and-w (part a (part b r)) = rw append_assoc at (part (reads.and-w a b) r)
produced or-w (part a (part b r)) = rw append_assoc at (part (reads.or-w a b) r)
produced eventually-w (part a r) = part (reads.eventually-w a) r
produced before-w (part a (part b r)) = rw append_assoc at (part (reads.before-w a b) r)
produced after-w (part a (part b r)) = rw append_assoc at (part (reads.after-w a b) r)
produced ignoring-w (part a (part b r)) = rw append_assoc at (part (reads.ignoring-w a b) r)
produced holds-e (part a r) = part (reads.holds-e a) r
produced not-e (part a r) = part (reads.not-e a) r
produced and-e (part a (part b r)) = rw append_assoc at (part (reads.and-e a b) r)
produced or-e (part a (part b r)) = rw append_assoc at (part (reads.or-e a b) r)
produced always-e (part a r) = part (reads.always-e a) r
produced before-e (part a (part b r)) = rw append_assoc at (part (reads.before-e a b) r)
produced after-e (part a (part b r)) = rw append_assoc at (part (reads.after-e a b) r)
produced fulfilling-e (part k (part a (part b (part c r)))) = simp append_assoc at (part (reads.fulfilling-e k a b c) r)
produced ignoring-e (part a (part b r)) = rw append_assoc at (part (reads.ignoring-e a b) r)
produced true-a r = part reads.true-a r
produced false-a r = part reads.false-a r
produced (proposition-a l) r = part (reads.proposition-a l) r
produced not_a (part a r) = part (reads.not_a a) r
produced and-a (part a (part b r)) = rw append_assoc at (part (reads.and-a a b) r)
produced or-a (part a (part b r)) = rw append_assoc at (part (reads.or-a a b) r)
produced (number l m) r = part (reads.number l m) r

-- words that are passed over, before what is read as the rest
passed : {s t : List Category} {us vs : List Word} → Passes s us t → ReadsAll t vs → ReadsAll s (us ++ vs)
passed here r = r
passed (on f p) r = produced f (passed p r)

-- Whatever is to come, some words are read as it.
record Ending (s : List Category) : Type 0 where
  words : List Word
  read : ReadsAll s words

ending : (s : List Category) → Ending s
ending [] = record { words = []; read = nothing }
ending (Text ∷ s) = record { words = _; read = part (reads.watch (reads.now-w reads.true-a)) (ending s).read }
ending (Watched ∷ s) = record { words = _; read = part (reads.now-w reads.true-a) (ending s).read }
ending (Enforced ∷ s) = record { words = _; read = part (reads.holds-e reads.true-a) (ending s).read }
ending (Formula ∷ s) = record { words = _; read = part reads.true-a (ending s).read }
ending (Number ∷ s) = record { words = _; read = part (reads.number {k = 1} (omega arith) (omega arith)) (ending s).read }
ending (End ∷ s) = record { words = _; read = end (ending s).read }

whole : {ws : List Word} → ReadsAll (Text ∷ End ∷ []) ws → InLanguage ws
whole (part {x} a (end nothing)) = record { rule = x; reads = rw append-nil a }
whole (part a (part x _)) = elim x [ ]

passed-completable : {us : List Word} {t : List Category} → Passes (Text ∷ End ∷ []) us t → Completable us
passed-completable {t} p = record { more = (ending t).words; whole = whole (passed p (ending t).read) }

-- The words before the place where reading sticks are passed over, and the category is to come next.
record Reached (s : List Category) (us : List Word) (d : Category) : Type 0 where
  rest : List Category
  passes : Passes s us (d ∷ rest)

reached : {s : List Category} {ws : List Word} {k : ℕ} {d : Category} → Sticks s ws k d → Reached s (take k ws) d
reached (ends o) = record { rest = _; passes = here }
reached (misfits m) = record { rest = _; passes = here }
reached (later f q) = record { rest = (reached q).rest; passes = on f (reached q).passes }

sticks-within : {s : List Category} {ws : List Word} {k : ℕ} {d : Category} → Sticks s ws k d → k ≤ length ws
sticks-within (ends o) = omega arith
sticks-within (misfits m) = omega arith
sticks-within (later f q) = omega (arith, sticks-within q)

-- Reading sticks there whatever stands behind the next word, and whichever other word stands there that does not fit.
sticks-longer : {s : List Category} {ws : List Word} {k : ℕ} {d : Category} → Sticks s ws k d → (j : ℕ) → k < j → j ≤ length ws → (more : List Word) → Sticks s (take j ws ++ more) k d
sticks-longer q zero l h more = absurd (omega arith)
sticks-longer (ends o) (suc j) l h more = absurd (omega arith)
sticks-longer (misfits m) (suc j) l h more = misfits m
sticks-longer (later f q) (suc j) l h more = later f (sticks-longer q j (omega arith) (omega arith) more)

sticks-other : {s : List Category} {ws : List Word} {k : ℕ} {d : Category} {w : Word} → Sticks s ws k d → Misfit d w → (more : List Word) → Sticks s (take k ws ++ (w ∷ more)) k d
sticks-other (ends o) m more = misfits m
sticks-other (misfits n) m more = misfits m
sticks-other (later f q) m more = later f (sticks-other q m more)

-- Words that are passed over up to the end stick nowhere.
same_parts : {c : Category} {w : Word} {xs ys : List Category} → Fits c w xs → Fits c w ys → xs ≡ ys
same_parts f g = cc (fits-parts f, fits-parts g)

not-both : {s : List Category} {ws : List Word} {k : ℕ} {d : Category} → Passes s ws (End ∷ []) → Sticks s ws k d → ⊥
not-both here (ends o) = o
not-both (on f p) (misfits m) = m.none f
not-both (on f p) (later g q) = not-both p (rw (same_parts g f) at q)

pub sticks-outside : {ws : List Word} {k : ℕ} {d : Category} → Sticks (Text ∷ End ∷ []) ws k d → InLanguage ws → ⊥
sticks-outside q l = not-both (reads-passes l.reads (End ∷ [])) q

pub sticks-spot : {ws : List Word} {k : ℕ} {d : Category} → Sticks (Text ∷ End ∷ []) ws k d → Spot ws k
sticks-spot {ws} {k} q =
    record {
      within = sticks-within q;
      completable = passed-completable (reached q).passes;
      longest = λ j h c. go j h c (dec_le j k);
    }
  where
    go : (j : ℕ) → j ≤ length ws → Completable (take j ws) → Dec (j ≤ k) → j ≤ k
    go j h c (yes l) = l
    go j h c (no n) = absurd (sticks-outside (sticks-longer q j (omega arith) h c.more) c.whole)

pub sticks-expects : {ws : List Word} {k : ℕ} {d : Category} → Sticks (Text ∷ End ∷ []) ws k d → Expects ws k d
sticks-expects q =
    record {
      fits = λ f. passed-completable (passes_then (reached q).passes (on f here));
      no_other = λ m c. sticks-outside (sticks-other q m c.more) (rw append_assoc at c.whole);
    }
