-- Remembered values as numbers: decoding what was encoded gives the value back, so that values that fit are equal where their numbers
-- are, and the number of a value that fits has at most 64 bits.
-- Assumes nothing.
use mathlib.Core.Path.{◌≡◌, refl, sym, ◌∙◌, ap}
use Prim.Native.Nat.{ℕ, ◌+◌, ◌*◌, ◌/◌, ◌%◌, ◌<◌}
use native.Mathlib.Nat.{mod-eq_of_lt}
use native.Mathlib.Omega.{arith}
use borrow.Author.Tests.{ne_eqb}
use Rattle.trace.specs.Trace.{Move, trip, go}
use Rattle.policy.specs.Rule.{Rule, opening-r, count-r, same-r, both_r, either_r, copied-r, before-r, after-r, fulfilling-r, ignoring-r}
use Rattle.policy.specs.Value.{Part, Opening, fresh, spent, Pair, Before, rows, released, After, row, marked, Fulfilling, waiting, kept, missed, Value}
use Rattle.rules.specs.Codes.{move_byte, byte_move, opening_code, code_opening, pair_code, code_pair, before_code, code_before, after_code, code_after, fulfilling_code, code_fulfilling, encode, decode, PartFits, BeforeFits, AfterFits, FulfillingFits, ValueFits}

-- the bytes of a number that two bytes make
high : (q r : ℕ) → q < 256 → r < 256 → (q * 256 + r) / 256 % 256 ≡ q
high q r g h = omega arith

low : (q r : ℕ) → r < 256 → (q * 256 + r) % 256 ≡ r
low q r h = omega arith

move-back : (m : Move ℕ) → PartFits m → byte_move (move_byte m) ≡ m
move-back trip h = refl
move-back (go r) h = rw (ne_eqb r 255 (omega arith)) refl

move-byte : (m : Move ℕ) → PartFits m → move_byte m < 256
move-byte trip h = omega arith
move-byte (go r) h = omega arith

opening-back : (v : Opening) → code_opening (opening_code v) ≡ v
opening-back fresh = refl
opening-back spent = refl

pair-back : (p : Pair) → PartFits p.left × PartFits p.right → code_pair (pair_code p) ≡ p
pair-back p h =
    rw (
      high (move_byte p.left) (move_byte p.right) (move-byte p.left h.0) (move-byte p.right h.1),
      low (move_byte p.left) (move_byte p.right) (move-byte p.right h.1),
      move-back p.left h.0,
      move-back p.right h.1,
    ) refl

before_back : (v : Before) → BeforeFits v → code_before (before_code v) ≡ v
before_back (rows q r) h = rw (ne_eqb (q * 256 + r) 65535 (omega arith), high q r (omega arith) (omega arith), low q r (omega arith)) refl
before_back released h = refl

after-back : (v : After) → AfterFits v → code_after (after_code v) ≡ v
after-back (row q) h =
    let m : q / 256 % 256 ≡ 0 = omega arith in
    let l : q % 256 ≡ q = omega arith in
    rw (m, l) refl
after-back (marked r) h =
    let m : (256 + r) / 256 % 256 ≡ 1 = omega arith in
    let l : (256 + r) % 256 ≡ r = omega arith in
    rw (m, l) refl

fulfilling-back : (v : Fulfilling) → FulfillingFits v → code_fulfilling (fulfilling_code v) ≡ v
fulfilling-back (waiting q n) h =
    let m : (q * 256 + n) / 65536 % 256 ≡ 0 = omega arith in
    rw (m, high q n (omega arith) (omega arith), low q n (omega arith)) refl
fulfilling-back (kept r) h =
    let m : (65536 + r) / 65536 % 256 ≡ 1 = omega arith in
    let l : (65536 + r) % 256 ≡ r = omega arith in
    rw (m, l) refl
fulfilling-back (missed r) h =
    let m : (131072 + r) / 65536 % 256 ≡ 2 = omega arith in
    let l : (131072 + r) % 256 ≡ r = omega arith in
    rw (m, l) refl

pub decode-encode : (rule : Rule Part) (v : Value rule) → ValueFits rule v → decode rule (encode rule v) ≡ v
decode-encode (opening-r hit) v h = opening-back v
decode-encode (count-r k) v h = mod-eq_of_lt (omega arith)
decode-encode (same-r f) v h = mod-eq_of_lt (omega arith)
decode-encode (both_r f g) v h = pair-back v h
decode-encode (either_r f g) v h = pair-back v h
decode-encode (copied-r f) v h = refl
decode-encode (before-r f g) v h = before_back v h
decode-encode (after-r f g) v h = after-back v h
decode-encode (fulfilling-r k f g i) v h = fulfilling-back v h
decode-encode (ignoring-r hit f) v h = mod-eq_of_lt (omega arith)

pub encode_injective : (rule : Rule Part) (u v : Value rule) → ValueFits rule u → ValueFits rule v → encode rule u ≡ encode rule v → u ≡ v
encode_injective rule u v g h e = sym (decode-encode rule u g) ∙ ap (decode rule) e ∙ decode-encode rule v h
