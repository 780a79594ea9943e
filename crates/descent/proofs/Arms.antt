-- An arm of a reader: the word that stands at its position, what is read behind it, and the node that closes them.
-- Assumes nothing.
use mathlib.Core.Path.{◌≡◌, refl, sym, ap, subst, ◌∙◌}
use mathlib.Core.List.{List, [], ◌∷◌, ◌++◌}
use Prim.Native.Nat.{ℕ, ◌+◌, ◌≤◌}
use native.Mathlib.Omega.{arith}
use lib.ListN.{length}
use Rattle.syntax.specs.declared.Node.{Node}
use Rattle.sheet_writer.specs.Bytes.{node_bytes}
use Rattle.grammar.specs.Words.{Word}
use Rattle.grammar.specs.Grammar.{Reading, Reads, number}
use Rattle.grammar.specs.Productions.{Fits, Misfit, Open, ends, misfits, Sticks}
use Rattle.grammar.specs.Nodes.{over_one, over_two, over_three, nodes_of}
use Rattle.grammar.specs.declared.Category.{Category}
use Rattle.grammar.specs.declared.Category.TheVariants.{Number, End}
use Rattle.grammar.specs.declared.Token.{Token}
use Rattle.grammar.specs.declared.Token.TheVariants.{Number as NumberToken}
use Rattle.grammar.proofs.Tokens.{Spelled, token-spelled}
use Rattle.lexer.specs.Next.{words_from}
use Rattle.parser_state.specs.Packed.{progress_of}
use Rattle.parser_state.specs.Progress.{root_of, stuck_at, Sane, Here, Exhausted, Takes, Closes}
use Rattle.descent.specs.Parsing.{unread, Parses, TookNumber, ParsesNumber, ParsesEnd, ends as at-end, goes_on}
use Rattle.parser_state.specs.Progress.Takes.{word as takes-word, nothing as takes-nothing}
use Rattle.descent.specs.Parsing.TookNumber.{takes, sticks}
use Rattle.parser_state.specs.declared.Taken.{Taken}
use Rattle.parser_state.specs.declared.Taken.TheVariants.{Word as taken, Nothing as nothing-taken}
use Rattle.parser_state.specs.declared.Progress.{Progress}
use Rattle.parser_state.specs.declared.Progress.TheVariants.{Going, Stuck}
use Rattle.descent.proofs.Parts.{stuck-here, stuck-still, sane-next, no_part, one-part, two-parts, number-part, three-parts}

-- What a word that was taken says, and that none was.
pub word-taken : {text : List ℕ} {p : Progress} {t : Taken} {token : Token} {behind : ℕ} → Takes text p t → t ≡ taken token behind
    → Here text p token (progress_of behind)
word-taken {text} {p} {token = token} {behind = behind} (takes-word {token = token'} {behind = behind'} h) q =
    let same-token : token' ≡ token = cc in
    let same-behind : behind' ≡ behind = cc in
    subst (λ (n : ℕ). Here text p token (progress_of n)) same-behind (subst (λ (t : Token). Here text p t (progress_of behind')) same-token h)
word-taken (takes-nothing x) q = absurd (let z : ◌≡◌ {A = ℕ} 0 1 = cc in omega arith)

pub none-taken : {text : List ℕ} {p : Progress} {t : Taken} → Takes text p t → t ≡ nothing-taken → Exhausted text p
none-taken (takes-word h) q = absurd (let z : ◌≡◌ {A = ℕ} 0 1 = cc in omega arith)
none-taken (takes-nothing x) q = x

-- No word is left, or reading is stuck already.
module _ {text : List ℕ} {c : Category} where
  pub over-here : (p : Progress) {before : List ℕ} {r : Progress} → Open c → Sane text p → Exhausted text p → r ≡ stuck_at p c → Parses c text p before r before
  over-here (Going at words nodes) {before} o s none q =
      let h : Sticks (c ∷ []) (words_from text at) 0 c = rw none (ends o) in
      subst (λ (r : Progress). Parses c text (Going at words nodes) before r before) (sym q) (stuck-here text s h (omega arith) refl)
  over-here (Stuck m d) {before} o s none q = subst (λ (r : Progress). Parses c text (Stuck m d) before r before) (sym q) (stuck-still text s.short refl)

stuck-sane : {text : List ℕ} {p : Progress} {m : ℕ} {d : Category} → Sane text p → Sane text (Stuck m d)
stuck-sane s = record { short = s.short; inside = omega arith; few_words = omega arith; few-nodes = omega arith }

pub number-over : {text : List ℕ} (p : Progress) {k : ℕ} {r : Progress} → Sane text p → Exhausted text p → r ≡ stuck_at p Number → ParsesNumber text p r k
number-over {text} (Going at words nodes) {k} s none q =
    let t : Sticks (Number ∷ []) (words_from text at) 0 Number = rw none (ends tt) in
    subst (λ (r : Progress). ParsesNumber text (Going at words nodes) r k) (sym q)
    (record { took = sticks t (omega arith); sane = stuck-sane s; onward = omega arith })
number-over {text} (Stuck m d) {k} s none q =
    subst (λ (r : Progress). ParsesNumber text (Stuck m d) r k) (sym q) (record { took = refl; sane = stuck-sane s; onward = omega arith })

-- A word stands at the position.
module _ {text : List ℕ} {p : Progress} {token : Token} {behind : Progress} (h : Here text p token behind) where
  -- the word is spelled as its token
  pub spelled : {t : Token} → token ≡ t → Spelled t h.this
  spelled e = subst (λ (t : Token). Spelled t h.this) (h.is ∙ e) (token-spelled h.this)

  pub sane-behind : Sane text behind
  sane-behind = subst (Sane text) (sym h.goes_on) (sane-next text h.sane h.far h.inside h.ahead)

  ahead-as : {v : Word} → h.this ≡ v → words_from text h.at ≡ v ∷ words_from text h.next
  ahead-as e = h.ahead ∙ ap (λ (v : Word). v ∷ words_from text h.next) e

  -- where reading is stuck before the word
  stuck-before : {c : Category} {r : Progress} → r ≡ stuck_at p c → r ≡ Stuck h.words c
  stuck-before {c} q = q ∙ ap (λ (p : Progress). stuck_at p c) h.going

  -- what is read behind the word
  first-part : {c : Category} {before : List ℕ} {a : Progress} {middle : List ℕ} → Parses c text behind before a middle
      → Parses c text (Going h.next (h.words + 1) h.nodes) before a middle
  first-part {c} {before} {a} {middle} g = subst (λ (q : Progress). Parses c text q before a middle) h.goes_on g

  number_behind : {a : Progress} {k : ℕ} → ParsesNumber text behind a k → ParsesNumber text (Going h.next (h.words + 1) h.nodes) a k
  number_behind {a} {k} g = subst (λ (q : Progress). ParsesNumber text q a k) h.goes_on g

  module _ {c : Category} {before : List ℕ} {r : Progress} {after : List ℕ} where
    as-going : Parses c text (Going h.at h.words h.nodes) before r after → Parses c text p before r after
    as-going g = subst (λ (q : Progress). Parses c text q before r after) (sym h.going) g

    pub leaf : {v : Word} {x : Reading c} (node : Node) → h.this ≡ v → Reads c (v ∷ []) x → nodes_of c h.nodes x ≡ node ∷ []
        → Closes (node_bytes node) before after behind r → Parses c text p before r after
    leaf node e d l q =
        as-going
        (no_part text h.sane h.far h.inside (ahead-as e) {node = node} d l
        (subst (λ (q : Progress). Closes (node_bytes node) before after q r) h.goes_on q))

    pub over-one : {c' : Category} {v : Word} (make : Reading c' → Reading c) (whole : ℕ → Node) {middle : List ℕ} {a : Progress} → h.this ≡ v
        → Fits c v (c' ∷ []) → ((us : List Word) (x : Reading c') → Reads c' us x → Reads c (v ∷ us) (make x))
        → ((x : Reading c') → nodes_of c h.nodes (make x) ≡ over_one h.nodes (nodes_of c' h.nodes x) whole)
        → ((n : ℕ) (x : Reading c') → 1 ≤ length (nodes_of c' n x))
        → Parses c' text behind before a middle → Closes (node_bytes (whole (root_of a))) middle after a r → Parses c text p before r after
    over-one make whole e f build listed some g q =
        as-going (one-part text h.sane h.far h.inside (ahead-as e) make whole f build listed some (first-part g) q)

    pub over-two : {c₁ c₂ : Category} {v : Word} (make : Reading c₁ → Reading c₂ → Reading c) (whole : ℕ → ℕ → Node) {m₁ m₂ : List ℕ} {a b : Progress}
        → h.this ≡ v → Fits c v (c₁ ∷ c₂ ∷ [])
        → ((us : List Word) (x : Reading c₁) (vs : List Word) (y : Reading c₂) → Reads c₁ us x → Reads c₂ vs y → Reads c (v ∷ (us ++ vs)) (make x y))
        → ((x : Reading c₁) (y : Reading c₂) → nodes_of c h.nodes (make x y)
        ≡ over_two h.nodes (nodes_of c₁ h.nodes x) (nodes_of c₂ (h.nodes + length (nodes_of c₁ h.nodes x)) y) whole)
        → ((n : ℕ) (x : Reading c₁) → 1 ≤ length (nodes_of c₁ n x)) → ((n : ℕ) (y : Reading c₂) → 1 ≤ length (nodes_of c₂ n y))
        → Parses c₁ text behind before a m₁ → Parses c₂ text a m₁ b m₂ → Closes (node_bytes (whole (root_of a) (root_of b))) m₂ after b r
        → Parses c text p before r after
    over-two make whole e f build listed some₁ some₂ g₁ g₂ q =
        as-going (two-parts text h.sane h.far h.inside (ahead-as e) make whole f build listed some₁ some₂ (first-part g₁) g₂ q)

    pub over-number : {v : Word} (make : ℕ → Reading c) (whole : ℕ → Node) {k : ℕ} {a : Progress} → h.this ≡ v → Fits c v (Number ∷ [])
        → ((us : List Word) (j : ℕ) → Reads Number us j → Reads c (v ∷ us) (make j)) → ((j : ℕ) → nodes_of c h.nodes (make j) ≡ whole j ∷ [])
        → ParsesNumber text behind a k → Closes (node_bytes (whole k)) before after a r → Parses c text p before r after
    over-number make whole e f build listed g q =
        as-going (number-part text h.sane h.far h.inside (ahead-as e) make whole f build listed (number_behind g) q)

    pub over-three : {c₁ c₂ c₃ : Category} {v : Word} (make : ℕ → Reading c₁ → Reading c₂ → Reading c₃ → Reading c) (whole : ℕ → ℕ → ℕ → ℕ → Node)
        {m₁ m₂ m₃ : List ℕ} {k : ℕ} {s a b e : Progress} → h.this ≡ v → Fits c v (Number ∷ c₁ ∷ c₂ ∷ c₃ ∷ [])
        → ((ts : List Word) (j : ℕ) (us : List Word) (x : Reading c₁) (vs : List Word) (y : Reading c₂) (ws : List Word) (z : Reading c₃)
        → Reads Number ts j → Reads c₁ us x → Reads c₂ vs y → Reads c₃ ws z → Reads c (v ∷ (ts ++ (us ++ (vs ++ ws)))) (make j x y z))
        → ((j : ℕ) (x : Reading c₁) (y : Reading c₂) (z : Reading c₃) → nodes_of c h.nodes (make j x y z)
        ≡ over_three h.nodes (nodes_of c₁ h.nodes x) (nodes_of c₂ (h.nodes + length (nodes_of c₁ h.nodes x)) y)
        (nodes_of c₃ (h.nodes + length (nodes_of c₁ h.nodes x) + length (nodes_of c₂ (h.nodes + length (nodes_of c₁ h.nodes x)) y)) z) (whole j))
        → ((n : ℕ) (x : Reading c₁) → 1 ≤ length (nodes_of c₁ n x)) → ((n : ℕ) (y : Reading c₂) → 1 ≤ length (nodes_of c₂ n y))
        → ((n : ℕ) (z : Reading c₃) → 1 ≤ length (nodes_of c₃ n z))
        → ParsesNumber text behind s k → Parses c₁ text s before a m₁ → Parses c₂ text a m₁ b m₂ → Parses c₃ text b m₂ e m₃
        → Closes (node_bytes (whole k (root_of a) (root_of b) (root_of e))) m₃ after e r → Parses c text p before r after
    over-three make whole spells f build listed some₁ some₂ some₃ g₀ g₁ g₂ g₃ q =
        as-going
        (three-parts text h.sane h.far h.inside (ahead-as spells) make whole f build listed some₁ some₂ some₃ (number_behind g₀) g₁ g₂ g₃ q)

    -- The word does not fit.
    pub misfits-here : Misfit c h.this → length after ≡ length before → r ≡ stuck_at p c → Parses c text p before r after
    misfits-here f l q =
        let k : Sticks (c ∷ []) (words_from text h.at) 0 c = rw h.ahead (misfits f) in
        as-going
        (subst (λ (q : Progress). Parses c text (Going h.at h.words h.nodes) before q after) (sym (stuck-before q))
        (stuck-here text h.sane k (omega arith) l))

  -- A number, which has no node.
  as_number : {k : ℕ} {r : Progress} → TookNumber text h.at h.words h.nodes r k → Sane text r
      → unread text r ≤ unread text (Going h.at h.words h.nodes) → ParsesNumber text p r k
  as_number {k} {r} t s u = subst (λ (q : Progress). ParsesNumber text q r k) (sym h.going) (record { took = t; sane = s; onward = u })

  pub number-here : {k : ℕ} → token ≡ NumberToken k → ParsesNumber text p behind k
  number-here {k} e =
      let w = spelled e in
      subst (λ (q : Progress). ParsesNumber text p q k) (sym h.goes_on)
      (as_number
      (takes {ws = h.this ∷ []}
      (record { reads = rw w.2 (number w.0 w.1); split = h.ahead; far = omega (arith, h.far); within = h.inside })
      refl)
      (subst (Sane text) h.goes_on sane-behind)
      (omega (arith, h.far)))

  pub number-stuck : {k : ℕ} {r : Progress} → Misfit Number h.this → r ≡ stuck_at p Number → ParsesNumber text p r k
  number-stuck {k} {r} f q =
      let t : Sticks (Number ∷ []) (words_from text h.at) 0 Number = rw h.ahead (misfits f) in
      subst (λ (r : Progress). ParsesNumber text p r k) (sym (stuck-before q)) (as_number (sticks t (omega arith)) (stuck-sane h.sane) (omega arith))

  -- Something stands behind a whole text.
  pub ended-not : {r : Progress} → r ≡ stuck_at p End → ParsesEnd text p r
  ended-not {r} q =
      subst (λ (r : Progress). ParsesEnd text p r) (sym (stuck-before q))
      (subst (λ (q : Progress). ParsesEnd text q (Stuck h.words End)) (sym h.going) (goes_on h.this h.next h.ahead))

-- A text ends, or reading was stuck.
pub ended-over : (text : List ℕ) (p : Progress) → Exhausted text p → ParsesEnd text p p
ended-over text (Going at words nodes) none = at-end none
ended-over text (Stuck m d) none = refl
