-- A whole text: `watch` or `enforce`, a policy, and nothing more.
-- Assumes nothing.
use mathlib.Core.Path.{◌≡◌, sym, ap, subst, ◌∙◌}
use mathlib.Core.List.{List, [], ◌∷◌, ◌++◌, append-nil}
use Prim.Native.Nat.{ℕ, suc, ◌+◌, ◌≤◌}
use native.Mathlib.Omega.{arith}
use lib.ListN.{length}
use Rattle.grammar.specs.Words.{Word}
use Rattle.grammar.specs.Grammar.{TextRule, Reading, Reads}
use Rattle.grammar.specs.Productions.{Fits, Misfit, Sticks, ends, misfits, later}
use Rattle.grammar.specs.Nodes.{nodes_of}
use Rattle.grammar.specs.declared.Category.{Category}
use Rattle.grammar.specs.declared.Category.TheVariants.{Text, End}
use Rattle.grammar.specs.declared.Token.{Token}
use Rattle.grammar.proofs.Sticking.{sticks-under, sticks-after}
use Rattle.lexer.specs.Next.{words_from}
use Rattle.parser_state.specs.Progress.{longest_text, stuck_at, Sane, Here, Exhausted}
use Rattle.descent.specs.Parsing.{Took, Parses, ParsesEnd, EndsAt, ends as at-end, goes_on, ParsesText}
use Rattle.descent.specs.Parsing.Took.{takes, sticks}
use Rattle.descent.specs.Parsing.ParsesText.{whole, sticks as whole-sticks}
use Rattle.parser_state.specs.declared.Progress.{Progress}
use Rattle.parser_state.specs.declared.Progress.TheVariants.{Going, Stuck}

pub at_front : {text : List ℕ} → length text ≤ longest_text → Sane text (Going 0 0 0)
at_front h = record { short = h; inside = omega arith; few_words = omega arith; few-nodes = omega arith }

-- Nothing may stand behind a whole text.
no_more : {w : Word} {parts : List Category} → Fits End w parts → ⊥
no_more = elim [ ]

stuck-as : {text behind : List ℕ} {k m : ℕ} {d : Category} → Sticks (Text ∷ End ∷ []) (words_from text 0) k d → m ≡ k → ParsesText text behind (Stuck m d)
stuck-as {text} {behind} {k} {m} {d} h e = subst (λ (j : ℕ). ParsesText text behind (Stuck j d)) (sym e) (whole-sticks h)

module _ {text : List ℕ} {p : Progress} (front : p ≡ Going 0 0 0) where
  pub no-words-at-all : {behind : List ℕ} {r : Progress} → Exhausted text p → r ≡ stuck_at p Text → ParsesText text behind r
  no-words-at-all {behind} {r} e q =
      let none : words_from text 0 ≡ [] = subst (Exhausted text) front e in
      let h : Sticks (Text ∷ End ∷ []) (words_from text 0) 0 Text = rw none (ends tt) in
      subst (λ (r : Progress). ParsesText text behind r) (sym (q ∙ ap (λ (p : Progress). stuck_at p Text) front)) (whole-sticks h)

  module _ {token : Token} {parts : Progress} (h : Here text p token parts) where
    at_zero : Going h.at h.words h.nodes ≡ Going 0 0 0
    at_zero = sym h.going ∙ front

    ahead : words_from text 0 ≡ h.this ∷ words_from text h.next
    ahead = let z : h.at ≡ 0 = cc at_zero in subst (λ (n : ℕ). words_from text n ≡ h.this ∷ words_from text h.next) z h.ahead

    goes : parts ≡ Going h.next 1 0
    goes =
        let w : h.words ≡ 0 = cc at_zero in
        let n : h.nodes ≡ 0 = cc at_zero in
        h.goes_on ∙ rw (w, n)

    pub misfit-at-all : {behind : List ℕ} {r : Progress} → Misfit Text h.this → r ≡ stuck_at p Text → ParsesText text behind r
    misfit-at-all {behind} {r} f q =
        let k : Sticks (Text ∷ End ∷ []) (words_from text 0) 0 Text = rw ahead (misfits f) in
        subst (λ (r : Progress). ParsesText text behind r) (sym (q ∙ ap (λ (p : Progress). stuck_at p Text) front)) (whole-sticks k)

    pub whole-text : {c : Category} {v : Word} (make : Reading c → TextRule) {before behind : List ℕ} {a r : Progress} → h.this ≡ v → Fits Text v (c ∷ [])
        → ((ws : List Word) (x : Reading c) → Reads c ws x → Reads Text (v ∷ ws) (make x)) → ((x : Reading c) → nodes_of Text 0 (make x) ≡ nodes_of c 0 x)
        → Parses c text parts before a behind → ParsesEnd text a r → ParsesText text behind r
    whole-text {c} {v} make {before} {behind} {a} {r} e f build listed g q = by a (subst (λ (q : Progress). Parses c text q before a behind) goes g).took q
      where
        spelt : words_from text 0 ≡ v ∷ words_from text h.next
        spelt = ahead ∙ ap (λ (v : Word). v ∷ words_from text h.next) e

        by : (a : Progress) → Took c text before behind h.next 1 0 a → ParsesEnd text a r → ParsesText text behind r
        by a (sticks {k} {m} {d} s em) q =
            let t : Sticks (Text ∷ End ∷ []) (words_from text 0) (suc k) d = rw spelt (later f (sticks-under (End ∷ []) s)) in
            subst (λ (r : Progress). ParsesText text behind r) (sym q) (stuck-as t (omega arith))
        by a (takes {ws} {x} {to} {m} {n} rd em en few wr) q = ended r q
          where
            ended : (r : Progress) → EndsAt text to m n r → ParsesText text behind r
            ended r (at-end none) =
                let all : words_from text 0 ≡ v ∷ ws = spelt ∙ ap (λ (l : List Word). v ∷ l) (rd.split ∙ ap (λ (l : List Word). ws ++ l) none ∙ append-nil ws) in
                let k : n ≡ length (nodes_of Text 0 (make x)) = rw (listed x) (omega arith) in
                subst (λ (j : ℕ). ParsesText text behind (Going to m j)) (sym k) (whole {rule = make x} (rw all (build ws x rd.reads)) before (rw (listed x) wr))
            ended r (goes_on w to' more) =
                let s : Sticks (c ∷ End ∷ []) (ws ++ (w ∷ words_from text to')) (length ws + 0) End = sticks-after rd.reads (misfits (record { none = no_more })) in
                let t : Sticks (Text ∷ End ∷ []) (words_from text 0) (suc (length ws + 0)) End = rw (spelt, rd.split, more) (later f s) in
                stuck-as t (omega arith)
