-- The tokens that a reader's arms leave over are those that do not fit its category.
-- Assumes nothing.
use mathlib.Core.Path.{◌≡◌, refl, sym, subst}
use mathlib.Core.List.{List}
use mathlib.Core.Option.{Option, none}
use Prim.Native.Nat.{ℕ}
use Rattle.grammar.specs.Productions.{Misfit}
use Rattle.grammar.specs.declared.Token.{Token}
use Rattle.grammar.specs.declared.Token.TheVariants.{Watch, Enforce, Now, Holds, Count, Not, And, Or, Eventually, Always, Before, After, Fulfilling, Ignoring, True, False, Proposition, Number as NumberToken, Other}
use Rattle.grammar.specs.declared.Category.{Category}
use Rattle.grammar.specs.declared.Category.TheVariants.{Text, Watched, Enforced, Formula, Number, End}
use Rattle.grammar.proofs.Fitting.{by_category, parts_of, misfit}
use Rattle.parser_state.specs.Progress.{Here}
use Rattle.parser_state.specs.declared.Progress.{Progress}

-- A token that is left over is none of those that the reader's arms take.
abbrev pub LeftOver : Category → Token → Type 0
LeftOver Text t = (t ≡ Watch → ⊥) × (t ≡ Enforce → ⊥)
LeftOver Watched t = (t ≡ Now → ⊥) × (t ≡ Count → ⊥) × (t ≡ Not → ⊥) × (t ≡ And → ⊥) × (t ≡ Or → ⊥) × (t ≡ Eventually → ⊥) × (t ≡ Before → ⊥) × (t ≡ After → ⊥) × (t ≡ Ignoring → ⊥)
LeftOver Enforced t = (t ≡ Holds → ⊥) × (t ≡ Not → ⊥) × (t ≡ And → ⊥) × (t ≡ Or → ⊥) × (t ≡ Always → ⊥) × (t ≡ Before → ⊥) × (t ≡ After → ⊥) × (t ≡ Fulfilling → ⊥) × (t ≡ Ignoring → ⊥)
LeftOver Formula t = (t ≡ True → ⊥) × (t ≡ False → ⊥) × ((i : ℕ) → t ≡ Proposition i → ⊥) × (t ≡ Not → ⊥) × (t ≡ And → ⊥) × (t ≡ Or → ⊥)
LeftOver Number t = (i : ℕ) → t ≡ NumberToken i → ⊥
LeftOver End t = Unit

-- by category: the token is not left over, or its parts are none
abbrev Nothing : Category → Token → Option (List Category) → Type 0
Nothing c t parts = LeftOver c t → parts ≡ none

row : (t : Token) {x w e a k : Option (List Category)} → Nothing Text t x → Nothing Watched t w → Nothing Enforced t e → Nothing Formula t a
    → Nothing Number t k → (c : Category) → Nothing c t (by_category x w e a k c)
row t fx fw fe fa fk Text = fx
row t fx fw fe fa fk Watched = fw
row t fx fw fe fa fk Enforced = fe
row t fx fw fe fa fk Formula = fa
row t fx fw fe fa fk Number = fk
row t fx fw fe fa fk End = λ o. refl

none_left : {o : Type 0} → o → ◌≡◌ {A = Option (List Category)} none none
none_left o = refl

left : (t : Token) (c : Category) → Nothing c t (parts_of t c)
left Watch = row Watch (λ o. absurd (o.0 refl)) none_left none_left none_left none_left
left Enforce = row Enforce (λ o. absurd (o.1 refl)) none_left none_left none_left none_left
left Now = row Now none_left (λ o. absurd (o.0 refl)) none_left none_left none_left
left Holds = row Holds none_left none_left (λ o. absurd (o.0 refl)) none_left none_left
left Count = row Count none_left (λ o. absurd (o.1 refl)) none_left none_left none_left
left Not = row Not none_left (λ o. absurd (o.2 refl)) (λ o. absurd (o.1 refl)) (λ o. absurd (o.3 refl)) none_left
left And = row And none_left (λ o. absurd (o.3 refl)) (λ o. absurd (o.2 refl)) (λ o. absurd (o.4 refl)) none_left
left Or = row Or none_left (λ o. absurd (o.4 refl)) (λ o. absurd (o.3 refl)) (λ o. absurd (o.5 refl)) none_left
left Eventually = row Eventually none_left (λ o. absurd (o.5 refl)) none_left none_left none_left
left Always = row Always none_left none_left (λ o. absurd (o.4 refl)) none_left none_left
left Before = row Before none_left (λ o. absurd (o.6 refl)) (λ o. absurd (o.5 refl)) none_left none_left
left After = row After none_left (λ o. absurd (o.7 refl)) (λ o. absurd (o.6 refl)) none_left none_left
left Fulfilling = row Fulfilling none_left none_left (λ o. absurd (o.7 refl)) none_left none_left
left Ignoring = row Ignoring none_left (λ o. absurd (o.8 refl)) (λ o. absurd (o.8 refl)) none_left none_left
left True = row True none_left none_left none_left (λ o. absurd (o.0 refl)) none_left
left False = row False none_left none_left none_left (λ o. absurd (o.1 refl)) none_left
left (Proposition i) = row (Proposition i) none_left none_left none_left (λ o. absurd (o.2 i refl)) none_left
left (NumberToken i) = row (NumberToken i) none_left none_left none_left none_left (λ o. absurd (o i refl))
left Other = row Other none_left none_left none_left none_left none_left

pub left-over : {text : List ℕ} {p : Progress} {t : Token} {behind : Progress} (h : Here text p t behind) (c : Category) → LeftOver c t → Misfit c h.this
left-over {t = t} h c o = misfit c h.this (subst (λ (t : Token). parts_of t c ≡ none) (sym h.is) (left t c o))
