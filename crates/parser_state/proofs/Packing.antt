-- Progress in one number: what is packed is read back, and counting a node on.
-- Assumes nothing.
use mathlib.Core.Path.{◌≡◌, refl, sym, ap, subst, ◌∙◌}
use mathlib.Core.List.{List, [], ◌∷◌}
use Prim.Native.Nat.{ℕ, zero, suc, ◌+◌, ◌*◌, ◌/◌, ◌%◌, ◌≤◌, ◌<◌}
use native.Mathlib.Omega.{arith}
use Rattle.base.specs.Fields.{field_size, pack_fields, field_in}
use Rattle.base.proofs.Fields.{field_back}
use Rattle.grammar.specs.declared.Category.{Category}
use Rattle.grammar.specs.declared.Category.TheVariants.{Text, Watched, Enforced, Formula, Number, End}
use Rattle.parser_state.specs.Packed.{one_node, one_mark, mark_of, category_at, by_mark, progress_of}
use Rattle.parser_state.specs.Progress.{longest_text, stuck_at}
use Rattle.parser_state.specs.declared.Progress.{Progress}
use Rattle.parser_state.specs.declared.Progress.TheVariants.{Going, Stuck}

-- The progress of a number whose fields are known.
pub by-fields : (n : ℕ) {at words nodes mark : ℕ} → field_in 0 n ≡ at → field_in 1 n ≡ words → field_in 2 n ≡ nodes → field_in 3 n ≡ mark
    → progress_of n ≡ by_mark mark at words nodes
unfolding progress_of
by-fields n {at} {words} {nodes} {mark} e₀ e₁ e₂ e₃ = rw (e₀, e₁, e₂, e₃)

-- What is above the marks of the others is that of the end.
pub last-mark : (k at words nodes : ℕ) → 6 ≤ k → by_mark k at words nodes ≡ Stuck words End
last-mark zero at words nodes h = absurd (omega arith)
last-mark (suc m) at words nodes h = ap (Stuck words) (last m (omega arith))
  where
    last : (m : ℕ) → 5 ≤ m → category_at m ≡ End
    last zero h = absurd (omega arith)
    last (suc zero) h = absurd (omega arith)
    last (suc (suc zero)) h = absurd (omega arith)
    last (suc (suc (suc zero))) h = absurd (omega arith)
    last (suc (suc (suc (suc zero)))) h = absurd (omega arith)
    last (suc (suc (suc (suc (suc more))))) h = refl

stuck-mark : (c : Category) (at words nodes : ℕ) → by_mark (mark_of c) at words nodes ≡ Stuck words c
stuck-mark Text at words nodes = refl
stuck-mark Watched at words nodes = refl
stuck-mark Enforced at words nodes = refl
stuck-mark Formula at words nodes = refl
stuck-mark Number at words nodes = refl
stuck-mark End at words nodes = refl

-- What is packed is read back.
pub packed-going : (at words nodes : ℕ) → at < field_size → words < field_size → nodes < field_size
    → progress_of (pack_fields (at ∷ words ∷ nodes ∷ 0 ∷ [])) ≡ Going at words nodes
packed-going at words nodes h₀ h₁ h₂ =
    let fields : List ℕ = at ∷ words ∷ nodes ∷ 0 ∷ [] in
    by-fields (pack_fields fields) (field_back 0 fields (omega arith) h₀) (field_back 1 fields (omega arith) h₁) (field_back 2 fields (omega arith) h₂)
    (field_back 3 fields (omega arith) (omega arith))

mark-low : (c : Category) → mark_of c < field_size
mark-low Text = omega arith
mark-low Watched = omega arith
mark-low Enforced = omega arith
mark-low Formula = omega arith
mark-low Number = omega arith
mark-low End = omega arith

pub packed-stuck : (words : ℕ) (c : Category) → words < field_size → progress_of (pack_fields (0 ∷ words ∷ 0 ∷ mark_of c ∷ [])) ≡ Stuck words c
packed-stuck words c h =
    let fields : List ℕ = 0 ∷ words ∷ 0 ∷ mark_of c ∷ [] in
    by-fields (pack_fields fields) (field_back 0 fields (omega arith) (omega arith)) (field_back 1 fields (omega arith) h) (field_back 2 fields (omega arith) (omega arith))
    (field_back 3 fields (omega arith) (mark-low c))
    ∙ stuck-mark c 0 words 0

-- Where reading goes on, the fields are the counts, and there is no mark.
pub record Fields (n at words nodes : ℕ) : Type 0 where
  pub is_at : field_in 0 n ≡ at
  pub is-words : field_in 1 n ≡ words
  pub is-nodes : field_in 2 n ≡ nodes
  pub no-mark : field_in 3 n ≡ 0

pub fields-of : (n : ℕ) {at words nodes : ℕ} → progress_of n ≡ Going at words nodes → Fields n at words nodes
unfolding progress_of
fields-of n {at} {words} {nodes} e = by (field_in 3 n) refl e
  where
    by : (mark : ℕ) → field_in 3 n ≡ mark → by_mark mark (field_in 0 n) (field_in 1 n) (field_in 2 n) ≡ Going at words nodes → Fields n at words nodes
    by zero m e = record { is_at = cc; is-words = cc; is-nodes = cc; no-mark = m }
    by (suc mark) m e = absurd (let z : ◌≡◌ {A = ℕ} 0 1 = cc in omega arith)

-- Every field is low.
pub low-fields : {n at words nodes : ℕ} → Fields n at words nodes → (at < field_size) × (words < field_size) × (nodes < field_size)
low-fields f = (omega (arith, f.is_at), omega (arith, f.is-words), omega (arith, f.is-nodes))

-- One node more.
pub counted-on : (n : ℕ) {at words nodes : ℕ} → progress_of n ≡ Going at words nodes → nodes ≤ longest_text → progress_of (n + one_node) ≡ Going at words (nodes + 1)
counted-on n {at} {words} {nodes} e few =
    let f = fields-of n e in
    by-fields (n + one_node) {at = at} {words = words} {nodes = nodes + 1} {mark = 0} (omega (arith, f.is_at)) (omega (arith, f.is-words)) (omega (arith, f.is-nodes))
    (omega (arith, f.is-nodes, f.no-mark))

-- No mark stands above the counts.
pub low-going : (n : ℕ) {at words nodes : ℕ} → n < field_size * one_mark → progress_of n ≡ Going at words nodes → n < one_mark
low-going n h e = let f = fields-of n e in omega (arith, f.no-mark)

-- The progress of a number of 64 bits, as code takes it apart.
pub unpacked : (n : ℕ) → n < field_size * one_mark
    → progress_of n ≡ by_mark (n / one_mark) (n % field_size) (n / field_size % field_size) (n / one_node % field_size)
unpacked n h =
    by-fields n {nodes = n / one_node % field_size} {mark = n / one_mark} refl refl (omega arith) (omega arith)

pub six-or-more : (n : ℕ) → (n ≡ 0 → ⊥) → (n ≡ 1 → ⊥) → (n ≡ 2 → ⊥) → (n ≡ 3 → ⊥) → (n ≡ 4 → ⊥) → (n ≡ 5 → ⊥) → 6 ≤ n
six-or-more n n0 n1 n2 n3 n4 n5 = omega arith

-- Reading is stuck where it was, or before the word that comes next.
pub stays-stuck : {p : Progress} (c : Category) {m : ℕ} {d : Category} → p ≡ Stuck m d → p ≡ stuck_at p c
stays-stuck c e = subst (λ (q : Progress). q ≡ stuck_at q c) (sym e) refl

pub stuck-packed : (n : ℕ) (c : Category) {at words nodes : ℕ} → progress_of n ≡ Going at words nodes
    → progress_of (pack_fields (0 ∷ words ∷ 0 ∷ mark_of c ∷ [])) ≡ stuck_at (progress_of n) c
stuck-packed n c {at} {words} {nodes} e =
    packed-stuck words c (low-fields (fields-of n e)).1 ∙ ap (λ (p : Progress). stuck_at p c) (sym e)
