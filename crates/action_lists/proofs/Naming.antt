-- The name of a word, and the first word that has a name.
-- Assumes nothing.
use mathlib.Core.Path.{◌≡◌, refl, sym, ap, ◌∙◌}
use mathlib.Core.Bool.{Bool, true, false, cond, ◌&&◌}
use mathlib.Core.List.{List, [], ◌∷◌}
use Prim.Native.Nat.{ℕ, zero, suc, ◌+◌, ◌-◌, ◌≤◌, ◌<◌}
use native.Mathlib.Omega.{arith}
use lib.Dec.{ltb}
use lib.ListN.{length, get_or, take, drop, length-take, length-drop}
use lib.Seq.{take-take, length-take-le}
use borrow.Author.Tests.{eq-eqb, ne_eqb}
use Rattle.fields.specs.Fields.{between, EndsField}
use Rattle.fields.proofs.Fielding.{first_field}
use Rattle.grammar.specs.Words.{Word}
use Rattle.grammar.specs.Spelling.{same}
use Rattle.positions.specs.Positions.{WordAt}
use Rattle.std.proofs.Common.{None}
use Rattle.action_lists.specs.ActionLists.{is_name, is_doubled, name_of, NameEnds, set_of, action_of, action_named, own_name, NameTakes, NameStands}

-- The name ends with the first field.
pub name_ends : {word : Word} {end : ℕ} → EndsField 61 word 0 end → NameEnds word end
unfolding name_of
name_ends {word} {end} e =
    let z : end - 0 ≡ end = omega arith in
    record { within = e.within; name = sym (rw z at (first_field e)) }

-- The action that a word is, by its name.
module _ {word : Word} {end : ℕ} (e : NameEnds word end) where
  name-long : length (name_of word) ≡ end
  name-long = ap length (sym e.name) ∙ length-take-le end word e.within

  pub unnamed : end ≡ length word → action_of word ≡ set_of word
  unfolding action_of
  unnamed h = rw (eq-eqb (length (name_of word)) (length word) (name-long ∙ h))

  module _ (h : end ≡ length word → ⊥) where
    pub named : is_name (take end word) ≡ true → action_of word ≡ set_of (drop (end + 1) word)
    unfolding action_of
    named n = rw (ne_eqb (length (name_of word)) (length word) (λ q. h (sym name-long ∙ q)), ← e.name, n, length-take-le end word e.within)

    pub misnamed : is_name (take end word) ≡ false → action_of word ≡ None
    unfolding action_of
    misnamed n = rw (ne_eqb (length (name_of word)) (length word) (λ q. h (sym name-long ∙ q)), ← e.name, n)

-- An earlier word with the same name, by what is found of the name.
pub doubled-by : (words : List Word) (word : Word) {name : Word} {is : Bool} {first : ℕ} (number : ℕ) → name ≡ name_of word → is ≡ is_name name → first ≡ action_named words name
    → is && ltb first number ≡ is_doubled words word number
doubled-by words word number e i f = rw (i, f, e)

-- A scan of a list that has come to a word, or to the end.
pub named-nowhere : (words : List Word) (name : Word) → words ≡ [] → action_named words name ≡ 0
unfolding action_named
named-nowhere words name e = rw e

module _ {words rest : List Word} {word : Word} (e : words ≡ word ∷ rest) (name : Word) where
  pub named_here : same (name_of word) name ≡ true → action_named words name ≡ 0
  unfolding action_named
  named_here n = rw (e, n)

  pub named-later : same (name_of word) name ≡ false → action_named words name ≡ suc (action_named rest name)
  unfolding action_named
  named-later n = rw (e, n)

-- In plain statements: the words before that number have another name, and the word of that number has this one.
others-before : (words : List Word) (name : Word) (j : ℕ) → j < action_named words name → same (name_of (get_or words j [])) name ≡ false
unfolding action_named
others-before [] name j h = absurd (omega arith)
others-before (word ∷ words) name j h = by (same (name_of word) name) refl (others-before words name) j h
  where
    by : (b : Bool) → same (name_of word) name ≡ b → ((j : ℕ) → j < action_named words name → same (name_of (get_or words j [])) name ≡ false)
        → (j : ℕ) → j < cond b 0 (suc (action_named words name)) → same (name_of (get_or (word ∷ words) j [])) name ≡ false
    by true e f j h = absurd (omega arith)
    by false e f zero h = e
    by false e f (suc j) h = f j (omega arith)

has-it : (words : List Word) (name : Word) → action_named words name < length words → same (name_of (get_or words (action_named words name) [])) name ≡ true
unfolding action_named
has-it [] name h = absurd (omega arith)
has-it (word ∷ words) name h = by (same (name_of word) name) refl (has-it words name) h
  where
    by : (b : Bool) → same (name_of word) name ≡ b → (action_named words name < length words → same (name_of (get_or words (action_named words name) [])) name ≡ true)
        → cond b 0 (suc (action_named words name)) < length (word ∷ words) → same (name_of (get_or (word ∷ words) (cond b 0 (suc (action_named words name))) [])) name ≡ true
    by true e f h = e
    by false e f h = f (omega arith)

-- A word's own name, where what stands before its `=` is a name.
module _ {word : Word} {end : ℕ} (e : NameEnds word end) where
  pub own-name : is_name (take end word) ≡ true → NameTakes word end
  unfolding own_name
  own-name n = record { within = e.within; name = rw (← e.name, n) }

  pub no-own-name : is_name (take end word) ≡ false → NameTakes word 0
  unfolding own_name
  no-own-name n = record { within = omega arith; name = rw (← e.name, n) }

-- The name of a word of a list stands within the list.
pub name-stands : {list : List ℕ} {number from to end : ℕ} → WordAt list number from to → NameTakes (between list from to) end → NameStands list number from (from + end)
name-stands {list} {number} {from} {to} {end} w e =
    let z : (from + end) - from ≡ end = omega arith in
    let l : length (between list from to) ≡ to - from = simp (length-take, length-drop) (omega (arith, w.within)) in
    let h : end ≤ to - from = omega (arith, e.within) in
    record {
      onward = omega arith;
      within = omega (arith, w.onward, w.within);
      name = rw (z, ← take-take end (to - from) (drop from list) h) (e.name ∙ ap own_name w.word);
    }
