-- The goals of `scan::pass::scan` that the check leaves.
use mathlib.Core.Path.{◌≡◌, sym, ◌∙◌, ap}
use mathlib.Core.Bool.{true}
use mathlib.Core.List.{List}
use Prim.Native.Nat.{ℕ, ◌+◌, ◌<◌, ◌^◌}
use native.Mathlib.Omega.{arith}
use borrow.Author.Rules.{rules}
use Rattle.std.specs.Prelude.{Option}
use Rattle.places.specs.Layout.{place_count}
use Rattle.places.specs.declared.Place.{Place}
use Rattle.view.specs.View.{View}
use Rattle.scan.specs.Scans.{Scans}
use Rattle.base.proofs.Bits.{bit_below, set-wider}
use Rattle.scan.proofs.Scanning.{scans-taken, scans-empty}
use Rattle.scan.proofs.pass.scan.Goals as goal
use Rattle.scan.proofs.pass.scan.Goals.{then-taken+in_ok-read+else-not-admits, else-taken}

-- with place i too
abbrev After : ℕ → View → ℕ → Option ℕ → List Place → ℕ → ℕ → Type 0
After i view action actions places denying fulfilled =
    Scans (i + 1) view action (record { actions = actions; places = places; denying = denying; fulfilled = fulfilled })
    × (denying < 2 ^ (i + 1)) × (fulfilled < 2 ^ (i + 1))

after-by : (i : ℕ) {view : View} {action : ℕ} {actions actions' : Option ℕ} {places places' : List Place} {denying denying' fulfilled fulfilled' : ℕ}
    → actions ≡ actions' → places ≡ places' → denying ≡ denying' → fulfilled ≡ fulfilled'
    → After i view action actions' places' denying' fulfilled' → After i view action actions places denying fulfilled
after-by i p q r s a = rw (p, q, r, s) a

pub loop-i-preserved : goal.loop-i-preserved
loop-i-preserved c =
    let l = c.loop-i in
    elim c.if-taken.branch [
      | then-taken+in_ok-read+else-not-admits w ↦
          let bits = w.step-stepped.result in
          let joins : w.admits.result ≡ true = search rules in
          after-by l.i w.actions-is w.places-is (w.denying-is ∙ ap (λ (n : ℕ). l.denying + n) w.bit-denying.ensures)
          (w.fulfilled-is ∙ ap (λ (n : ℕ). l.fulfilled + n) w.bit-fulfilled.ensures) (
            scans-taken _ _ l.i _ w.in_ok-read.read _ _ _ l.invariant.0 (rw w.place_bytes.ensures at w.in_ok-read.ensures) (sym w.admits.ensures ∙ joins) w.step-stepped.ensures,
            bit_below bits.denies l.i l.denying l.invariant.1,
            bit_below bits.fulfilled l.i l.fulfilled l.invariant.2,
          )
      | else-taken w ↦
          after-by l.i w.actions-is w.places-is w.denying-is w.fulfilled-is (
            scans-empty _ _ l.i _ (sym c.taken.ensures ∙ w.if-taken.false) l.invariant.0,
            set-wider l.i (l.i + 1) l.denying (omega arith) l.invariant.1,
            set-wider l.i (l.i + 1) l.fulfilled (omega arith) l.invariant.2,
          )
    ]

pub returns : goal.returns
returns c =
    let l = c.loop-i in
    let end : l.i ≡ place_count = omega arith in
    rw end at l.invariant.0
