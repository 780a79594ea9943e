-- Check 5: a node that is read has its parts below its number and its argument in its range.
-- Assumes nothing.
use Rattle.sheet_reading.specs.declared.NodeError.TheVariants.{WrongField, UnknownKind}
use Rattle.std.proofs.Common.{Err, Ok}
use mathlib.Core.Path.{◌≡◌, refl, subst}
use mathlib.Core.Bool.{Bool, true, false, cond, ◌&&◌}
use Prim.Native.Nat.{ℕ, ◌≤◌, ◌<◌}
use lib.Dec.{leb, ltb, eqb}
use borrow.Author.Tests.{leb-true, ltb-true}
use Rattle.base.proofs.Truths.{and-true}
use Rattle.syntax.specs.Formed.{PartsBelow, ArgumentFits}
use Rattle.syntax.specs.declared.Node.{Node}
use Rattle.syntax.specs.declared.Node.TheVariants.{True, False, Proposition, Negation, Conjunction, Disjunction, Now, Holds, Count, Not, And, Or, Eventually, Always, BeforeMinus, BeforePlus, AfterMinus, AfterPlus, Fulfilling, Ignoring}
use Rattle.sheet_layout.specs.Layout.{in_range}
use Rattle.sheet_reading.specs.Reading.{NodeRead, given, no_part, argument_only, one_part, two_parts, three_parts, read_fields}

module _ (n : ℕ) where
  abbrev Fits : Node → Type 0
  Fits node = PartsBelow n node × ArgumentFits node

  -- what is read, if a node is, fits
  abbrev FitsAs : NodeRead → Type 0
  FitsAs (Ok node) = Fits node
  FitsAs (Err WrongField) = Unit {0}
  FitsAs (Err UnknownKind) = Unit {0}

  record ReadFits (r : NodeRead) : Type 0 where
    fits : FitsAs r

  fits-cond : (b : Bool) {x y : NodeRead} → ReadFits x → ReadFits y → ReadFits (cond b x y)
  fits-cond true p q = p
  fits-cond false p q = q

  fits-given : (b : Bool) (node : Node) → (b ≡ true → Fits node) → ReadFits (given b node)
  fits-given true node f = record { fits = f refl }
  fits-given false node f = record { fits = tt }

  module _ (argument a b c : ℕ) (node : Node) where
    fits-none : Fits node → ReadFits (no_part argument a b c node)
    fits-none p = fits-given (eqb argument 0 && (eqb a 0 && (eqb b 0 && eqb c 0))) node (λ e. p)

    fits-argument : (low high : ℕ) → (low ≤ argument → argument ≤ high → Fits node) → ReadFits (argument_only low high argument a b c node)
    fits-argument low high f =
        fits-given (in_range low high argument && (eqb a 0 && (eqb b 0 && eqb c 0))) node
        (λ e.
        let h = and-true (leb low argument) (leb argument high) (and-true (in_range low high argument) _ e).0 in
        f (leb-true _ _ h.0) (leb-true _ _ h.1))

    fits_one : (a < n → Fits node) → ReadFits (one_part n argument a b c node)
    fits_one f =
        fits-given (eqb argument 0 && (ltb a n && (eqb b 0 && eqb c 0))) node
        (λ e. f (ltb-true a n (and-true (ltb a n) _ (and-true (eqb argument 0) _ e).1).0))

    fits-two : (a < n → b < n → Fits node) → ReadFits (two_parts n argument a b c node)
    fits-two f =
        fits-given (eqb argument 0 && (ltb a n && (ltb b n && eqb c 0))) node
        (λ e.
        let h = and-true (ltb a n) _ (and-true (eqb argument 0) _ e).1 in
        f (ltb-true a n h.0) (ltb-true b n (and-true (ltb b n) _ h.1).0))

    fits-three : (1 ≤ argument → argument ≤ 60 → a < n → b < n → c < n → Fits node) → ReadFits (three_parts n argument a b c node)
    fits-three f =
        fits-given (in_range 1 60 argument && (ltb a n && (ltb b n && ltb c n))) node
        (λ e.
        let r = and-true (in_range 1 60 argument) _ e in
        let h = and-true (leb 1 argument) (leb argument 60) r.0 in
        let p = and-true (ltb a n) _ r.1 in
        let q = and-true (ltb b n) _ p.1 in
        f (leb-true _ _ h.0) (leb-true _ _ h.1) (ltb-true a n p.0) (ltb-true b n q.0) (ltb-true c n q.1))

  read_fits : (kind argument a b c : ℕ) → ReadFits (read_fields n kind argument a b c)
  read_fits kind argument a b c =
      fits-cond (eqb kind 1) (fits-none argument a b c True (tt, tt))
      (fits-cond (eqb kind 2) (fits-none argument a b c False (tt, tt))
      (fits-cond (eqb kind 3) (fits-argument argument a b c (Proposition argument) 0 15 (λ l h. (tt, h)))
      (fits-cond (eqb kind 4) (fits_one argument a b c (Negation a) (λ p. (p, tt)))
      (fits-cond (eqb kind 5) (fits-two argument a b c (Conjunction a b) (λ p q. ((p, q), tt)))
      (fits-cond (eqb kind 6) (fits-two argument a b c (Disjunction a b) (λ p q. ((p, q), tt)))
      (fits-cond (eqb kind 10) (fits_one argument a b c (Now a) (λ p. (p, tt)))
      (fits-cond (eqb kind 11) (fits_one argument a b c (Holds a) (λ p. (p, tt)))
      (fits-cond (eqb kind 12) (fits-argument argument a b c (Count argument) 1 60 (λ l h. (tt, (l, h))))
      (fits-cond (eqb kind 13) (fits_one argument a b c (Not a) (λ p. (p, tt)))
      (fits-cond (eqb kind 14) (fits-two argument a b c (And a b) (λ p q. ((p, q), tt)))
      (fits-cond (eqb kind 15) (fits-two argument a b c (Or a b) (λ p q. ((p, q), tt)))
      (fits-cond (eqb kind 16) (fits_one argument a b c (Eventually a) (λ p. (p, tt)))
      (fits-cond (eqb kind 17) (fits_one argument a b c (Always a) (λ p. (p, tt)))
      (fits-cond (eqb kind 18) (fits-two argument a b c (BeforeMinus a b) (λ p q. ((p, q), tt)))
      (fits-cond (eqb kind 19) (fits-two argument a b c (BeforePlus a b) (λ p q. ((p, q), tt)))
      (fits-cond (eqb kind 20) (fits-two argument a b c (AfterMinus a b) (λ p q. ((p, q), tt)))
      (fits-cond (eqb kind 21) (fits-two argument a b c (AfterPlus a b) (λ p q. ((p, q), tt)))
      (fits-cond (eqb kind 22) (fits-three argument a b c (Fulfilling argument a b c) (λ l h p q r. ((p, q, r), (l, h))))
      (fits-cond (eqb kind 23) (fits-two argument a b c (Ignoring a b) (λ p q. ((p, q), tt))) (record { fits = tt }))))))))))))))))))))

  pub parts_below : (kind argument a b c : ℕ) (node : Node) → read_fields n kind argument a b c ≡ Ok node → PartsBelow n node × ArgumentFits node
  parts_below kind argument a b c node e = subst FitsAs e (read_fits kind argument a b c).fits
