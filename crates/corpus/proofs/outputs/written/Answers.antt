-- `corpus::outputs::written` meets its contract. The front and what stands behind it are compared apart.
use Rattle.std.proofs.Common.{◌≡◌, ℕ, ◌-◌, List, length, take, drop, sym, ◌∙◌, arith, length-drop, take-append-drop, take_all}
use lib.Pointwise.{bytes_decides}
use Rattle.corpus.proofs.outputs.written.Goals as goal

tail : (n : ℕ) (l : List ℕ) → take (length l - n) (drop n l) ≡ drop n l
tail n l = take_all (length l - n) (drop n l) (simp length-drop (omega arith))

pub returns-in-Some-Some : goal.returns-in-Some-Some
returns-in-Some-Some c = λ h.
    let some = c.in-Some-Some in
    let n : ℕ = length c.args.front.now in
    let front : take n c.args.out.now ≡ c.args.front.now = (bytes_decides _ _).0 some.ensures.cases.0 in
    let behind : some.behind.now ≡ some.rest.now = (bytes_decides _ _).0 (sym c.eq.ensures ∙ h) in
    cc (take-append-drop n c.args.out.now, some.ensures.cases.1, some.ensures'.lookup.0.2, tail n c.args.fresh.now)
