-- Each answer to a text is given exactly when: 14, 2, 31, 32, 33 in this order, and a sheet where none of them applies. So words are written as a
-- sheet exactly when they are in the language.
-- Assumes nothing.
use mathlib.Core.Path.{◌≡◌, refl, sym, subst}
use mathlib.Core.List.{List}
use mathlib.Core.Logic.{◌↔◌}
use Prim.Native.Nat.{ℕ, ◌≤◌, ◌<◌}
use native.Mathlib.Omega.{arith}
use lib.ListN.{length}
use Rattle.grammar.specs.Words.{words_of}
use Rattle.grammar.specs.Language.{InLanguage, Spot}
use Rattle.sheet_writer.specs.Bytes.{largest_sheet}
use Rattle.sheet_writer.specs.Sheets.{SomeActions}
use Rattle.parser_state.specs.Progress.{longest_text}
use Rattle.parser.specs.Calling.{TextAnswer, written, refused, ReadsAs, unreadable, too_many, reads, ReadsInto, short, no-actions, long, judged}
use Rattle.parser_laws.specs.Outcomes.{IsSheet, TextRefusedBy, NoneBut32, MayRead, FewNodes, ManyNodes}
use Rattle.parser_laws.proofs.Outcomes.{not-both, text-determined}

module _ {text actions out : List ℕ} where
  -- the text may be read
  may_read : largest_sheet ≤ length out → SomeActions actions → length text ≤ longest_text → MayRead text actions out
  may_read h s l = record { room = h; some-actions = s; short = l }

  -- a text that is read is refused by 32 or 33
  late : {number : ℕ} {x : TextAnswer} {o : List ℕ} → ReadsAs text actions out x o → TextRefusedBy number x → 32 ≤ number
  late (unreadable k n t) e = omega arith
  late (too_many r a m) e = omega arith
  late (reads r a f _) e = absurd e

  -- what each answer says of the text, the actions and the output
  says-14 : {x : TextAnswer} {o : List ℕ} → ReadsInto text actions out x o → TextRefusedBy 14 x → length out < largest_sheet
  says-14 (short h) e = h
  says-14 (no-actions h n) e = absurd (omega arith)
  says-14 (long h s l) e = absurd (omega arith)
  says-14 (judged h s l x o a) e = absurd (omega (arith, late a e))

  says-2 : {x : TextAnswer} {o : List ℕ} → ReadsInto text actions out x o → TextRefusedBy 2 x → (largest_sheet ≤ length out) × (SomeActions actions → ⊥)
  says-2 (short h) e = absurd (omega arith)
  says-2 (no-actions h n) e = (h, n)
  says-2 (long h s l) e = absurd (omega arith)
  says-2 (judged h s l x o a) e = absurd (omega (arith, late a e))

  says-31 : {x : TextAnswer} {o : List ℕ} → ReadsInto text actions out x o → TextRefusedBy 31 x
      → (largest_sheet ≤ length out) × SomeActions actions × (longest_text < length text)
  says-31 (short h) e = absurd (omega arith)
  says-31 (no-actions h n) e = absurd (omega arith)
  says-31 (long h s l) e = (h, s, l)
  says-31 (judged h s l x o a) e = absurd (omega (arith, late a e))

  says-32 : {number spot : ℕ} {o : List ℕ} → ReadsInto text actions out (refused number spot) o → number ≡ 32
      → MayRead text actions out × (InLanguage (words_of text) → ⊥) × Spot (words_of text) spot
  says-32 (short h) e = absurd (omega arith)
  says-32 (no-actions h n) e = absurd (omega arith)
  says-32 (long h s l) e = absurd (omega arith)
  says-32 (judged h s l _ _ (unreadable k n t)) e = (may_read h s l, n, t)
  says-32 (judged h s l _ _ (too_many r a m)) e = absurd (omega arith)

  says-33 : {x : TextAnswer} {o : List ℕ} → ReadsInto text actions out x o → TextRefusedBy 33 x → MayRead text actions out × ManyNodes (words_of text)
  says-33 (short h) e = absurd (omega arith)
  says-33 (no-actions h n) e = absurd (omega arith)
  says-33 (long h s l) e = absurd (omega arith)
  says-33 (judged h s l _ _ (unreadable k n t)) e = absurd (omega arith)
  says-33 (judged h s l _ _ (too_many r a m)) e = (may_read h s l, record { within = record { rule = r; reads = a }; many = m })
  says-33 (judged h s l _ _ (reads r a f _)) e = absurd e

  says-sheet : {x : TextAnswer} {o : List ℕ} → ReadsInto text actions out x o → IsSheet x → MayRead text actions out × FewNodes (words_of text)
  says-sheet (short h) e = absurd e
  says-sheet (no-actions h n) e = absurd e
  says-sheet (long h s l) e = absurd e
  says-sheet (judged h s l _ _ (unreadable k n t)) e = absurd e
  says-sheet (judged h s l _ _ (too_many r a m)) e = absurd e
  says-sheet (judged h s l _ _ (reads r a f _)) e = (may_read h s l, record { within = record { rule = r; reads = a }; few = f })

  says-outside : (x : TextAnswer) {o : List ℕ} → ReadsInto text actions out x o → TextRefusedBy 32 x → MayRead text actions out × (InLanguage (words_of text) → ⊥)
  says-outside (written bytes count nodes) c e = absurd e
  says-outside (refused number spot) c e = let p = says-32 c e in (p.0, p.1)

  outside-refused : {x : TextAnswer} {o : List ℕ} → ReadsInto text actions out x o → MayRead text actions out → (InLanguage (words_of text) → ⊥) → TextRefusedBy 32 x
  outside-refused (short h) may n = absurd (omega arith)
  outside-refused (no-actions h m) may n = absurd (m may.some-actions)
  outside-refused (long h s g) may n = absurd (omega arith)
  outside-refused (judged h s g _ _ (unreadable k m t)) may n = refl
  outside-refused (judged h s g _ _ (too_many r a m)) may n = absurd (n (record { rule = r; reads = a }))
  outside-refused (judged h s g _ _ (reads r a f _)) may n = absurd (n (record { rule = r; reads = a }))

  in-language-sheet : {x : TextAnswer} {o : List ℕ} → ReadsInto text actions out x o → NoneBut32 x → InLanguage (words_of text) → IsSheet x
  in-language-sheet (short h) none l = absurd (none.not-14 refl)
  in-language-sheet (no-actions h n) none l = absurd (none.not-2 refl)
  in-language-sheet (long h s g) none l = absurd (none.not-31 refl)
  in-language-sheet (judged h s g _ _ (unreadable k n t)) none l = absurd (n l)
  in-language-sheet (judged h s g _ _ (too_many r a m)) none l = absurd (none.not-33 refl)
  in-language-sheet (judged h s g _ _ (reads r a f _)) none l = tt

  few-sheet : {x : TextAnswer} {o : List ℕ} → ReadsInto text actions out x o → MayRead text actions out → FewNodes (words_of text) → IsSheet x
  few-sheet (short h) may few = absurd (omega arith)
  few-sheet (no-actions h n) may few = absurd (n may.some-actions)
  few-sheet (long h s g) may few = absurd (omega arith)
  few-sheet (judged h s g _ _ (unreadable k n t)) may few = absurd (n few.within)
  few-sheet (judged h s g _ _ (too_many r a m)) may few = absurd (not-both few.within.reads a few.few m)
  few-sheet (judged h s g _ _ (reads r a f _)) may few = tt

module _ {text actions out out'' : List ℕ} {answer : TextAnswer} (call : ReadsInto text actions out answer out'') where
  -- 14 is given exactly when the output is too short.
  pub refused-14-exactly : (answer ≡ refused 14 0) ↔ (length out < largest_sheet)
  refused-14-exactly = (λ e. says-14 call (subst (TextRefusedBy 14) (sym e) refl), λ h. (text-determined call (short h)).0)

  -- 2 is given exactly when 14 does not apply and the actions are not 1 to 16.
  pub refused-2-exactly : (answer ≡ refused 2 0) ↔ ((largest_sheet ≤ length out) × (SomeActions actions → ⊥))
  refused-2-exactly = (λ e. says-2 call (subst (TextRefusedBy 2) (sym e) refl), λ p. (text-determined call (no-actions p.0 p.1)).0)

  -- 31 is given exactly when neither applies and the text is too long.
  pub refused-31-exactly : (answer ≡ refused 31 0) ↔ ((largest_sheet ≤ length out) × SomeActions actions × (longest_text < length text))
  refused-31-exactly = (λ e. says-31 call (subst (TextRefusedBy 31) (sym e) refl), λ p. (text-determined call (long p.0 p.1 p.2)).0)

  -- 32 is given, with this spot, exactly when none of those applies, the words are not in the language, and this is the spot where they leave it.
  pub refused-32-exactly : {spot : ℕ}
      → (answer ≡ refused 32 spot) ↔ (MayRead text actions out × (InLanguage (words_of text) → ⊥) × Spot (words_of text) spot)
  refused-32-exactly {spot} = (
    λ e. says-32 (subst (λ (x : TextAnswer). ReadsInto text actions out x out'') e call) refl,
    λ p. (text-determined call (judged p.0.room p.0.some-actions p.0.short _ _ (unreadable spot p.1 p.2))).0,
  )

  -- 33 is given exactly when none of those applies and the reading has more than 64 nodes.
  pub refused-33-exactly : (answer ≡ refused 33 0) ↔ (MayRead text actions out × ManyNodes (words_of text))
  refused-33-exactly = (
    λ e. says-33 call (subst (TextRefusedBy 33) (sym e) refl),
    λ p.
        (text-determined call
        (judged p.0.room p.0.some-actions p.0.short _ _ (too_many p.1.within.rule p.1.within.reads p.1.many))
        ).0,
  )

  -- A sheet is written exactly when none of the five applies: the text may be read, and its words are in the language, with at most 64 nodes.
  pub sheet-exactly : IsSheet answer ↔ (MayRead text actions out × FewNodes (words_of text))
  sheet-exactly = (says-sheet call, λ p. few-sheet call p.0 p.1)

  -- Where the answer is none of 14, 2, 31 and 33, a sheet is written exactly when the words are in the language.
  pub text-exactly : NoneBut32 answer → IsSheet answer ↔ InLanguage (words_of text)
  text-exactly none = (λ i. (sheet-exactly.0 i).1.within, in-language-sheet call none)

  -- That is: where the output, the actions and the text are in their ranges, and the answer is not 33.
  pub text-exactly-within : MayRead text actions out → (TextRefusedBy 33 answer → ⊥) → IsSheet answer ↔ InLanguage (words_of text)
  text-exactly-within may few =
      text-exactly
      (record {
        not-14 = λ e. absurd (omega (arith, says-14 call e, may.room));
        not-2 = λ e. (says-2 call e).1 may.some-actions;
        not-31 = λ e. absurd (omega (arith, (says-31 call e).2, may.short));
        not-33 = few;
      })

  -- 32 is given, at some spot, exactly when none of 14, 2 and 31 applies and the words are not in the language.
  pub refused-32-outside : TextRefusedBy 32 answer ↔ (MayRead text actions out × (InLanguage (words_of text) → ⊥))
  refused-32-outside = (says-outside answer call, λ p. outside-refused call p.0 p.1)
