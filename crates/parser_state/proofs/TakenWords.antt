-- A word that is taken, from what the lexer finds at the position; and that the counts are small.
-- Assumes nothing.
use mathlib.Core.Path.{◌≡◌, sym, subst}
use mathlib.Core.List.{List, []}
use Prim.Native.Nat.{ℕ, ◌+◌, ◌≤◌}
use Rattle.std.proofs.Common.{Option, Some, None}
use native.Mathlib.Omega.{arith}
use Rattle.grammar.specs.declared.Category.{Category}
use Rattle.lexer.specs.Next.{words_from, NextWord, word, nothing}
use Rattle.lexer.specs.declared.Word.{Word as NextOne}
use Rattle.parser_state.specs.Progress.{longest_text, Sane, Here, Exhausted}
use Rattle.parser_state.specs.declared.Progress.{Progress}
use Rattle.parser_state.specs.declared.Progress.TheVariants.{Going, Stuck}

-- Taking a word: what was found.
pub none_here : {text : List ℕ} {at : ℕ} {n : Option NextOne} → NextWord text at n → n ≡ None → words_from text at ≡ []
none_here (word w to far inside ahead) q = absurd (let z : ◌≡◌ {A = ℕ} 0 1 = cc in omega arith)
none_here (nothing none) q = none

pub here : {text : List ℕ} {p : Progress} {at words nodes : ℕ} → Sane text p → p ≡ Going at words nodes → {n : Option NextOne} → NextWord text at n → {this : NextOne}
    → n ≡ Some this → {behind : Progress} → behind ≡ Going this.end (words + 1) nodes → Here text p this.token behind
here {text} {p} {at} {words} {nodes} s e (word w to far inside ahead) {this} q {behind} b =
    let to-next : to ≡ this.end = cc in
    record {
      at = at;
      words = words;
      nodes = nodes;
      next = this.end;
      going = e;
      goes_on = b;
      sane = subst (Sane text) e s;
      this = w;
      is = cc;
      far = rw to-next at far;
      inside = rw to-next at inside;
      ahead = rw to-next at ahead;
    }
here s e (nothing none) q b = absurd (let z : ◌≡◌ {A = ℕ} 0 1 = cc in omega arith)

-- the counts are small
pub few-counts : {text : List ℕ} {p : Progress} {at words nodes : ℕ} → Sane text p → p ≡ Going at words nodes → (words ≤ longest_text) × (nodes ≤ longest_text)
few-counts {text} {p} {at} {words} {nodes} s e =
    let t : Sane text (Going at words nodes) = subst (Sane text) e s in
    (omega (arith, t.short, t.inside, t.few_words), omega (arith, t.short, t.inside, t.few_words, t.few-nodes))

pub few_bytes : {text : List ℕ} {p : Progress} {at : ℕ} {n : Option NextOne} {this : NextOne} → Sane text p → NextWord text at n → n ≡ Some this → this.end ≤ longest_text
few_bytes {this = this} s (word w to far inside ahead) q = let to-next : to ≡ this.end = cc in omega (arith, s.short)
few_bytes s (nothing none) q = absurd (let z : ◌≡◌ {A = ℕ} 0 1 = cc in omega arith)

pub exhausted : (text : List ℕ) {p : Progress} {at words nodes : ℕ} → p ≡ Going at words nodes → words_from text at ≡ [] → Exhausted text p
exhausted text e none = subst (Exhausted text) (sym e) none

pub exhausted-stuck : (text : List ℕ) {p : Progress} {m : ℕ} {d : Category} → p ≡ Stuck m d → Exhausted text p
exhausted-stuck text e = subst (Exhausted text) (sym e) tt
