-- What is cut out of a text stands in it.
-- Assumes nothing.
use Rattle.std.proofs.Common.{◌≡◌, sym, ap, ◌∙◌, ℕ, ◌-◌, ◌<◌, ◌≤◌, List, [], ◌++◌, length, take, drop, append_assoc, take-append-drop, length-take-le, length-drop, arith}
use Rattle.std.proofs.lemmas.List.{drop-drop}
use Rattle.rule_files.specs.Standing.{StandsIn, IsWordIn, WordThen, EndsWith}

pub front_stands : (text : List ℕ) (n : ℕ) → StandsIn text (take n text)
front_stands text n = record { before = []; behind = drop n text; whole = sym (take-append-drop n text) }

pub part_stands : (text : List ℕ) (from to : ℕ) → StandsIn text (take (to - from) (drop from text))
part_stands text from to =
    let rest : List ℕ = drop from text in
    record { before = take from text; behind = drop (to - from) rest; whole = rw (take-append-drop (to - from) rest) (sym (take-append-drop from text)) }

-- a part of a part
pub part_within : {text part piece : List ℕ} → StandsIn text part → StandsIn part piece → StandsIn text piece
part_within {text} {part} {piece} s p =
    record { before = s.before ++ p.before; behind = p.behind ++ s.behind; whole = s.whole ∙ (rw p.whole (simp append_assoc)) }

-- nothing is read yet
pub all_left : (text left : List ℕ) → left ≡ text → EndsWith text left
all_left text left e = record { before = []; whole = sym e }

-- a word of what is left
pub word_left : {text left word rest : List ℕ} → EndsWith text left → WordThen left word rest → IsWordIn text word
word_left {text} {left} {word} {rest} e w =
    record { stands = record { before = e.before ++ w.blanks; behind = rest; whole = e.whole ∙ (rw w.whole (simp append_assoc)) }; some = w.some }

pub rest_left : {text left word rest : List ℕ} → EndsWith text left → WordThen left word rest → EndsWith text rest
rest_left {text} {left} {word} {rest} e w =
    record { before = e.before ++ (w.blanks ++ word); whole = e.whole ∙ (rw w.whole (simp append_assoc)) }

-- a word that is cut out of what is left, and the rest behind it
pub word_cut : (left : List ℕ) (from to : ℕ) → from < to → to ≤ length left → WordThen left (take (to - from) (drop from left)) (drop to left)
word_cut left from to h l =
    let rest : List ℕ = drop from left in
    let e : drop (to - from) rest ≡ drop to left = drop-drop (to - from) from left ∙ ap (λ (k : ℕ). drop k left) (omega arith) in
    record {
      blanks = take from left;
      whole = rw (← e, take-append-drop (to - from) rest) (sym (take-append-drop from left));
      some = omega (arith, length-take-le (to - from) rest (omega (arith, length-drop from left)));
    }
