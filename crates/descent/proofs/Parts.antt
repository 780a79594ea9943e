-- A word that fits, what is read behind it, and the node that closes them: a law for each number of parts.
-- Assumes nothing.
use mathlib.Core.Path.{◌≡◌, refl, sym, ap, subst, ◌∙◌}
use mathlib.Core.List.{List, [], ◌∷◌, ◌++◌, append_assoc}
use Prim.Native.Nat.{ℕ, suc, ◌+◌, ◌-◌, ◌%◌, ◌≤◌, ◌<◌}
use native.Mathlib.Omega.{arith}
use lib.ListN.{length, length-append}
use Rattle.syntax.specs.declared.Node.{Node}
use Rattle.sheet_writer.specs.Bytes.{node_bytes}
use Rattle.grammar.specs.Words.{Word}
use Rattle.grammar.specs.Grammar.{Reading, Reads}
use Rattle.grammar.specs.Productions.{Fits, Sticks, later}
use Rattle.grammar.specs.Nodes.{over_one, over_two, over_three, nodes_of}
use Rattle.grammar.specs.declared.Category.{Category}
use Rattle.grammar.specs.declared.Category.TheVariants.{Number}
use Rattle.grammar.proofs.Sticking.{sticks-under, sticks-after}
use Rattle.lexer.specs.Next.{words_from}
use Rattle.descent.specs.Parsing.TookNumber.{takes as number-takes, sticks as number-sticks}
use Rattle.descent.specs.Parsing.Took.{takes, sticks}
use Rattle.sheet_writer.specs.Writing.{Wrote}
use Rattle.parser_state.specs.Progress.{longest_text, byte_size, root_of, Sane, Closes}
use Rattle.descent.specs.Parsing.{Took, TookBy, Parses, TookNumber, ParsesNumber}
use Rattle.parser_state.specs.declared.Progress.{Progress}
use Rattle.parser_state.specs.declared.Progress.TheVariants.{Going, Stuck}
use Rattle.sheet_writer.proofs.NodesWritten.{wrote_then, wrote_as, wrote_one}
use Rattle.parser_state.proofs.ClosedNodes.{root_is}
use Rattle.grammar.proofs.Sizes.{length-one, length_two, length_three}

-- The last node before a position has its number in a byte.
root-at : (n : ℕ) {k : ℕ} → 1 ≤ n → n ≡ k → k ≤ 64 → (n % byte_size + (byte_size - 1)) % byte_size ≡ k - 1
root-at n {k} h e g = root_is n h (omega arith) ∙ ap (λ (j : ℕ). j - 1) e

-- A node closes nothing where reading is stuck.
closes-stuck : (bytes before behind : List ℕ) {p r : Progress} {m : ℕ} {d : Category} → p ≡ Stuck m d → Closes bytes before behind p r
    → (r ≡ Stuck m d) × (length behind ≡ length before)
closes-stuck bytes before behind {p} {r} e q = subst (λ (p : Progress). Closes bytes before behind p r) e q

module _ (text : List ℕ) where
  -- Reading is stuck where it is.
  pub stuck-here : {c d : Category} {at words nodes k m : ℕ} {before : List ℕ} → Sane text (Going at words nodes) → Sticks (c ∷ []) (words_from text at) k d
      → m ≡ words + k → {behind : List ℕ} → length behind ≡ length before → Parses c text (Going at words nodes) before (Stuck m d) behind
  stuck-here s h e l =
      record {
        took = sticks h e;
        sane = record { short = s.short; inside = omega arith; few_words = omega arith; few-nodes = omega arith };
        onward = omega arith;
        sized = l;
      }

  pub stuck-still : {c d : Category} {m : ℕ} {before behind : List ℕ} → length text ≤ longest_text → length behind ≡ length before → Parses c text (Stuck m d) before (Stuck m d) behind
  stuck-still s l =
      record {
        took = refl;
        sane = record { short = s; inside = omega arith; few_words = omega arith; few-nodes = omega arith };
        onward = omega arith;
        sized = l;
      }

  -- A word stands at a position.
  module _ {at words nodes next : ℕ} {w : Word} (s : Sane text (Going at words nodes)) (far : at < next) (inside : next ≤ length text)
      (ahead : words_from text at ≡ w ∷ words_from text next) where
    pub sane-next : Sane text (Going next (words + 1) nodes)
    sane-next =
        record { short = s.short; inside = inside; few_words = omega (arith, s.few_words); few-nodes = omega (arith, s.few-nodes) }

    -- Everything behind the word is read, and closed by a node.
    module _ {c : Category} {before behind : List ℕ} {ws : List Word} {x : Reading c} {to m n : ℕ} where
      given : Reads c (w ∷ ws) x → words_from text next ≡ ws ++ words_from text to → next + length ws ≤ to → to ≤ length text
          → m ≡ words + 1 + length ws → n ≡ nodes + length (nodes_of c nodes x) → length (nodes_of c nodes x) ≤ 1 + length ws
          → Wrote (nodes_of c nodes x) nodes before behind → Parses c text (Going at words nodes) before (Going to m n) behind
      given r p f i em en few wr =
          record {
            took = takes {to = to} {m = m} {n = n} (record { reads = r; split = ahead ∙ ap (λ (l : List Word). w ∷ l) p; far = omega arith; within = i }) (omega arith) en (omega arith) wr;
            sane = record { short = s.short; inside = i; few_words = omega (arith, s.few_words); few-nodes = omega (arith, s.few-nodes) };
            onward = omega arith;
            sized = wr.sized;
          }

    module _ {c : Category} {before : List ℕ} {r : Progress} {behind : List ℕ} where
      -- the result that a closing node gives
      as-closed : {q : Progress} → r ≡ q → Parses c text (Going at words nodes) before q behind → Parses c text (Going at words nodes) before r behind
      as-closed e g = subst (λ (q : Progress). Parses c text (Going at words nodes) before q behind) (sym e) g

      stuck-behind : {parts : List Category} {k m : ℕ} {d : Category} → Fits c w parts → Sticks (parts ++ []) (words_from text next) k d → m ≡ words + 1 + k
          → r ≡ Stuck m d → length behind ≡ length before → Parses c text (Going at words nodes) before r behind
      stuck-behind {k = k} {d = d} f h em e l =
          let j : Sticks (c ∷ []) (words_from text at) (suc k) d = rw ahead (later f h) in
          as-closed e (stuck-here s j (omega arith) l)

      -- no part
      pub no_part : {x : Reading c} {node : Node} → Reads c (w ∷ []) x → nodes_of c nodes x ≡ node ∷ []
          → Closes (node_bytes node) before behind (Going next (words + 1) nodes) r → Parses c text (Going at words nodes) before r behind
      no_part {x} {node} d l q =
          as-closed q.0
          (given d refl (omega arith) inside (omega arith) (rw l (omega arith)) (rw l (omega arith)) (rw l (wrote_one node q.1)))

      -- one part
      pub one-part : {c' : Category} (make : Reading c' → Reading c) (whole : ℕ → Node) {middle : List ℕ} {a : Progress} → Fits c w (c' ∷ [])
          → ((us : List Word) (x : Reading c') → Reads c' us x → Reads c (w ∷ us) (make x))
          → ((x : Reading c') → nodes_of c nodes (make x) ≡ over_one nodes (nodes_of c' nodes x) whole)
          → ((n : ℕ) (x : Reading c') → 1 ≤ length (nodes_of c' n x))
          → Parses c' text (Going next (words + 1) nodes) before a middle → Closes (node_bytes (whole (root_of a))) middle behind a r
          → Parses c text (Going at words nodes) before r behind
      one-part {c'} make whole {middle} {a} f build listed some g q = by a g.took q
        where
          by : (a : Progress) → Took c' text before middle next (words + 1) nodes a → Closes (node_bytes (whole (root_of a))) middle behind a r
              → Parses c text (Going at words nodes) before r behind
          by a (takes {ws} {x} {to} {m} {n} rd em en few wr) q =
              let l = listed x in
              let k = length-one (nodes_of c' nodes x) (whole (nodes + length (nodes_of c' nodes x) - 1)) in
              let o = some nodes x in
              as-closed q.0
              (given (build ws x rd.reads) rd.split rd.far rd.within em (rw l (omega arith)) (rw l (omega arith))
              (rw l (wrote_then wr en (wrote_as (λ h. ap whole (root-at n (omega arith) en (omega arith))) (wrote_one (whole (root_of (Going to m n))) q.1)))))
          by a (sticks h em) q = stuck-behind f h em q.0 (q.1 ∙ g.sized)

      -- two parts
      pub two-parts : {c₁ c₂ : Category} (make : Reading c₁ → Reading c₂ → Reading c) (whole : ℕ → ℕ → Node) {m₁ m₂ : List ℕ} {a b : Progress}
          → Fits c w (c₁ ∷ c₂ ∷ [])
          → ((us : List Word) (x : Reading c₁) (vs : List Word) (y : Reading c₂) → Reads c₁ us x → Reads c₂ vs y → Reads c (w ∷ (us ++ vs)) (make x y))
          → ((x : Reading c₁) (y : Reading c₂) → nodes_of c nodes (make x y) ≡ over_two nodes (nodes_of c₁ nodes x) (nodes_of c₂ (nodes + length (nodes_of c₁ nodes x)) y) whole)
          → ((n : ℕ) (x : Reading c₁) → 1 ≤ length (nodes_of c₁ n x)) → ((n : ℕ) (y : Reading c₂) → 1 ≤ length (nodes_of c₂ n y))
          → Parses c₁ text (Going next (words + 1) nodes) before a m₁ → Parses c₂ text a m₁ b m₂ → Closes (node_bytes (whole (root_of a) (root_of b))) m₂ behind b r
          → Parses c text (Going at words nodes) before r behind
      two-parts {c₁} {c₂} make whole {m₁} {m₂} {a} {b} f build listed some₁ some₂ g h q = by a g.took h.took q
        where
          by : (a : Progress) → Took c₁ text before m₁ next (words + 1) nodes a → TookBy c₂ text m₁ m₂ a b → Closes (node_bytes (whole (root_of a) (root_of b))) m₂ behind b r
              → Parses c text (Going at words nodes) before r behind
          by a (sticks k em) e q =
              let z = closes-stuck (node_bytes (whole 0 (root_of b))) m₂ behind e q in
              stuck-behind f (sticks-under (c₂ ∷ []) k) em z.0 (z.1 ∙ h.sized ∙ g.sized)
          by a (takes {ws = us} {x} {to} {m} {n} rd em en few wr) t q = second b (subst (λ (j : ℕ). Took c₂ text m₁ m₂ to m j b) en t) q
            where
              second : (b : Progress) → Took c₂ text m₁ m₂ to m (nodes + length (nodes_of c₁ nodes x)) b
                  → Closes (node_bytes (whole (root_of (Going to m n)) (root_of b))) m₂ behind b r → Parses c text (Going at words nodes) before r behind
              second b (sticks {k} {d = d} k-sticks em') q =
                  stuck-behind f (subst (λ (l : List Word). Sticks (c₁ ∷ c₂ ∷ []) l (length us + k) d) (sym rd.split) (sticks-after rd.reads k-sticks)) (omega arith)
                  q.0 (q.1 ∙ h.sized ∙ g.sized)
              second b (takes {ws = vs} {x = y} {to = to'} {m = m'} {n = n'} rd' em' en' few' wr') q =
                  let l = listed x y in
                  let xs = nodes_of c₁ nodes x in
                  let ys = nodes_of c₂ (nodes + length xs) y in
                  let k = length_two xs ys (whole (nodes + length xs - 1) (nodes + length xs + length ys - 1)) in
                  let o = some₁ nodes x in
                  let o' = some₂ (nodes + length xs) y in
                  let v = length-append us vs in
                  as-closed q.0
                  (given (build us x vs y rd.reads rd'.reads)
                  (rd.split ∙ ap (λ (r : List Word). us ++ r) rd'.split ∙ sym (append_assoc us vs (words_from text to')))
                  (omega (arith, rd.far, rd'.far)) rd'.within (omega arith) (rw l (omega arith)) (rw l (omega arith))
                  (rw l
                  (wrote_then wr refl
                  (wrote_then wr' en'
                  (wrote_as
                  (λ room. ap (λ (i : ℕ). whole i (root_of (Going to' m' n'))) (root-at n (omega arith) en (omega arith)) ∙ ap (λ (i : ℕ). whole (nodes + length xs - 1) i) (root-at n' (omega arith) en' (omega arith)))
                  (wrote_one (whole (root_of (Going to m n)) (root_of (Going to' m' n'))) q.1))))))

      -- a number
      pub number-part : (make : ℕ → Reading c) (whole : ℕ → Node) {k : ℕ} {a : Progress} → Fits c w (Number ∷ [])
          → ((us : List Word) (j : ℕ) → Reads Number us j → Reads c (w ∷ us) (make j)) → ((j : ℕ) → nodes_of c nodes (make j) ≡ whole j ∷ [])
          → ParsesNumber text (Going next (words + 1) nodes) a k → Closes (node_bytes (whole k)) before behind a r → Parses c text (Going at words nodes) before r behind
      number-part make whole {k} {a} f build listed g q = by a g.took q
        where
          by : (a : Progress) → TookNumber text next (words + 1) nodes a k → Closes (node_bytes (whole k)) before behind a r → Parses c text (Going at words nodes) before r behind
          by a (number-takes {ws} rd em) q =
              let l = listed k in
              as-closed q.0 (given (build ws k rd.reads) rd.split rd.far rd.within em (rw l (omega arith)) (rw l (omega arith)) (rw l (wrote_one (whole k) q.1)))
          by a (number-sticks h em) q = stuck-behind f h em q.0 q.1

      -- a number and three parts
      pub three-parts : {c₁ c₂ c₃ : Category} (make : ℕ → Reading c₁ → Reading c₂ → Reading c₃ → Reading c) (whole : ℕ → ℕ → ℕ → ℕ → Node) {m₁ m₂ m₃ : List ℕ}
          {k : ℕ} {s a b e : Progress} → Fits c w (Number ∷ c₁ ∷ c₂ ∷ c₃ ∷ [])
          → ((ts : List Word) (j : ℕ) (us : List Word) (x : Reading c₁) (vs : List Word) (y : Reading c₂) (ws : List Word) (z : Reading c₃)
          → Reads Number ts j → Reads c₁ us x → Reads c₂ vs y → Reads c₃ ws z → Reads c (w ∷ (ts ++ (us ++ (vs ++ ws)))) (make j x y z))
          → ((j : ℕ) (x : Reading c₁) (y : Reading c₂) (z : Reading c₃) → nodes_of c nodes (make j x y z)
          ≡ over_three nodes (nodes_of c₁ nodes x) (nodes_of c₂ (nodes + length (nodes_of c₁ nodes x)) y)
          (nodes_of c₃ (nodes + length (nodes_of c₁ nodes x) + length (nodes_of c₂ (nodes + length (nodes_of c₁ nodes x)) y)) z) (whole j))
          → ((n : ℕ) (x : Reading c₁) → 1 ≤ length (nodes_of c₁ n x)) → ((n : ℕ) (y : Reading c₂) → 1 ≤ length (nodes_of c₂ n y))
          → ((n : ℕ) (z : Reading c₃) → 1 ≤ length (nodes_of c₃ n z))
          → ParsesNumber text (Going next (words + 1) nodes) s k → Parses c₁ text s before a m₁ → Parses c₂ text a m₁ b m₂ → Parses c₃ text b m₂ e m₃
          → Closes (node_bytes (whole k (root_of a) (root_of b) (root_of e))) m₃ behind e r → Parses c text (Going at words nodes) before r behind
      three-parts {c₁} {c₂} {c₃} make whole {m₁} {m₂} {m₃} {k} {s} {a} {b} {e} f build listed some₁ some₂ some₃ g₀ g₁ g₂ g₃ q =
          zeroth s g₀.took g₁.took g₂.took g₃.took q
        where
          size : length m₃ ≡ length before
          size = g₃.sized ∙ g₂.sized ∙ g₁.sized

          stop : {j m : ℕ} {d : Category} (node : Node) (e : Progress) → Sticks (Number ∷ c₁ ∷ c₂ ∷ c₃ ∷ []) (words_from text next) j d → m ≡ words + 1 + j → e ≡ Stuck m d
              → Closes (node_bytes node) m₃ behind e r → Parses c text (Going at words nodes) before r behind
          stop node e h em x q =
              let z = closes-stuck (node_bytes node) m₃ behind x q in
              stuck-behind f h em z.0 (z.1 ∙ size)

          zeroth : (s : Progress) → TookNumber text next (words + 1) nodes s k → TookBy c₁ text before m₁ s a → TookBy c₂ text m₁ m₂ a b → TookBy c₃ text m₂ m₃ b e
              → Closes (node_bytes (whole k (root_of a) (root_of b) (root_of e))) m₃ behind e r → Parses c text (Going at words nodes) before r behind
          zeroth s (number-sticks {m = m} {d = d} h em) t₁ t₂ t₃ q =
              let u = subst (λ (p : Progress). TookBy c₂ text m₁ m₂ p b) t₁ t₂ in
              let v = subst (λ (p : Progress). TookBy c₃ text m₂ m₃ p e) u t₃ in
              stop (whole k (root_of a) (root_of b) (root_of e)) e (sticks-under (c₁ ∷ c₂ ∷ c₃ ∷ []) h) em v q
          zeroth s (number-takes {ws = ts} {to = to₀} {m = w₀} rd₀ em₀) t₁ t₂ t₃ q = first a t₁ t₂ t₃ q
            where
              behind-number : {l : List Word} {j : ℕ} {d : Category} → words_from text to₀ ≡ l → Sticks (c₁ ∷ c₂ ∷ c₃ ∷ []) l j d
                  → Sticks (Number ∷ c₁ ∷ c₂ ∷ c₃ ∷ []) (words_from text next) (length ts + j) d
              behind-number {l} {j} {d} x h =
                  subst (λ (l : List Word). Sticks (Number ∷ c₁ ∷ c₂ ∷ c₃ ∷ []) l (length ts + j) d) (sym (rd₀.split ∙ ap (λ (l : List Word). ts ++ l) x)) (sticks-after rd₀.reads h)

              first : (a : Progress) → Took c₁ text before m₁ to₀ w₀ nodes a → TookBy c₂ text m₁ m₂ a b → TookBy c₃ text m₂ m₃ b e
                  → Closes (node_bytes (whole k (root_of a) (root_of b) (root_of e))) m₃ behind e r → Parses c text (Going at words nodes) before r behind
              first a (sticks h em) t₂ t₃ q =
                  let v = subst (λ (p : Progress). TookBy c₃ text m₂ m₃ p e) t₂ t₃ in
                  stop (whole k (root_of a) (root_of b) (root_of e)) e (behind-number refl (sticks-under (c₂ ∷ c₃ ∷ []) h)) (omega arith) v q
              first a (takes {ws = us} {x} {to = to₁} {m = w₁} {n = n₁} rd₁ em₁ en₁ few₁ wr₁) t₂ t₃ q =
                  second b (subst (λ (j : ℕ). Took c₂ text m₁ m₂ to₁ w₁ j b) en₁ t₂) t₃ q
                where
                  second : (b : Progress) → Took c₂ text m₁ m₂ to₁ w₁ (nodes + length (nodes_of c₁ nodes x)) b → TookBy c₃ text m₂ m₃ b e
                      → Closes (node_bytes (whole k (root_of (Going to₁ w₁ n₁)) (root_of b) (root_of e))) m₃ behind e r → Parses c text (Going at words nodes) before r behind
                  second b (sticks h em) t₃ q =
                      stop (whole k (root_of (Going to₁ w₁ n₁)) (root_of b) (root_of e)) e (behind-number rd₁.split (sticks-after rd₁.reads (sticks-under (c₃ ∷ []) h))) (omega arith) t₃ q
                  second b (takes {ws = vs} {x = y} {to = to₂} {m = w₂} {n = n₂} rd₂ em₂ en₂ few₂ wr₂) t₃ q =
                      third e (subst (λ (j : ℕ). Took c₃ text m₂ m₃ to₂ w₂ j e) en₂ t₃) q
                    where
                      third : (e : Progress)
                          → Took c₃ text m₂ m₃ to₂ w₂ (nodes + length (nodes_of c₁ nodes x) + length (nodes_of c₂ (nodes + length (nodes_of c₁ nodes x)) y)) e
                          → Closes (node_bytes (whole k (root_of (Going to₁ w₁ n₁)) (root_of (Going to₂ w₂ n₂)) (root_of e))) m₃ behind e r
                          → Parses c text (Going at words nodes) before r behind
                      third e (sticks h em) q =
                          stop (whole k (root_of (Going to₁ w₁ n₁)) (root_of (Going to₂ w₂ n₂)) (root_of e)) e
                          (behind-number (rd₁.split ∙ ap (λ (l : List Word). us ++ l) rd₂.split) (sticks-after rd₁.reads (sticks-after rd₂.reads h))) (omega arith) refl q
                      third e (takes {ws = ws} {x = z} {to = to₃} {m = w₃} {n = n₃} rd₃ em₃ en₃ few₃ wr₃) q =
                          let l = listed k x y z in
                          let xs = nodes_of c₁ nodes x in
                          let ys = nodes_of c₂ (nodes + length xs) y in
                          let zs = nodes_of c₃ (nodes + length xs + length ys) z in
                          let node : ℕ → ℕ → ℕ → Node = whole k in
                          let i₁ = nodes + length xs - 1 in
                          let i₂ = nodes + length xs + length ys - 1 in
                          let size = length_three xs ys zs (node i₁ i₂ (nodes + length xs + length ys + length zs - 1)) in
                          let o₁ = some₁ nodes x in
                          let o₂ = some₂ (nodes + length xs) y in
                          let o₃ = some₃ (nodes + length xs + length ys) z in
                          let v = length-append vs ws in
                          let u = length-append us (vs ++ ws) in
                          let t = length-append ts (us ++ (vs ++ ws)) in
                          as-closed q.0
                          (given (build ts k us x vs y ws z rd₀.reads rd₁.reads rd₂.reads rd₃.reads)
                          (rw (rd₀.split, rd₁.split, rd₂.split, rd₃.split) (simp append_assoc))
                          (omega (arith, rd₀.far, rd₁.far, rd₂.far, rd₃.far)) rd₃.within (omega arith) (rw l (omega arith)) (rw l (omega arith))
                          (rw l
                          (wrote_then wr₁ refl
                          (wrote_then wr₂ refl
                          (wrote_then wr₃ en₃
                          (wrote_as
                          (λ room.
                          ap (λ (i : ℕ). node i (root_of (Going to₂ w₂ n₂)) (root_of (Going to₃ w₃ n₃))) (root-at n₁ (omega arith) en₁ (omega arith))
                          ∙ ap (λ (i : ℕ). node i₁ i (root_of (Going to₃ w₃ n₃))) (root-at n₂ (omega arith) en₂ (omega arith))
                          ∙ ap (λ (i : ℕ). node i₁ i₂ i) (root-at n₃ (omega arith) en₃ (omega arith)))
                          (wrote_one (node (root_of (Going to₁ w₁ n₁)) (root_of (Going to₂ w₂ n₂)) (root_of (Going to₃ w₃ n₃))) q.1)))))))
