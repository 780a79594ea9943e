-- Check 10 from its parts: a header, the length, and entries that fit.
-- Assumes nothing.
use mathlib.Core.Path.{◌≡◌, refl, sym, ◌∙◌, ap}
use mathlib.Core.List.{List, [], ◌∷◌}
use Prim.Native.Nat.{ℕ, zero, suc, ◌+◌, ◌*◌, ◌-◌, ◌≤◌, ◌<◌}
use native.Mathlib.Nat.{mul-le-mul}
use native.Mathlib.Omega.{arith}
use lib.ListN.{length, get_or, take, drop, length-take, length-drop}
use lib.Seq.{get_or-take, take-nil}
use Rattle.base.specs.Word.{word_at}
use Rattle.automaton.specs.Machine.{Machine}
use Rattle.table.specs.Table.{actions_of, rows_of, table_length, front_table, entries_of, EntryFits, HeaderFits, WellFormed, RowsFit, CanonicalRows, Canonical}
use Rattle.table.specs.Answer.{mode_number, accepted, refused, Loads, accepts, not-canonical, FieldsOf, FormedAs}
use Rattle.table.specs.declared.Header.{Header}

module _ (bytes : List ℕ) (header : Header) (fields : FieldsOf bytes header) where
  pub area : header.rows * header.actions ≤ 1024
  area = mul-le-mul {n₂ = 64} {m₂ = 16} (omega (arith, fields.fits, fields.rowed)) (omega (arith, fields.fits, fields.acting))

  -- the length that the header gives
  pub whole_of : WellFormed bytes → length bytes ≡ 8 + header.rows * header.actions
  whole_of h = rw (fields.rowed, fields.acting) at h.whole

  pub formed : length bytes ≡ 8 + header.rows * header.actions → ((k : ℕ) → k < length (drop 8 bytes) → EntryFits header.rows (get_or (drop 8 bytes) k 255)) → FormedAs bytes header
  formed e f = record { formed = record { header = fields.fits; whole = rw (fields.rowed, fields.acting) e; entries = at }; fields = fields }
    where
      at : (k : ℕ) → k < rows_of bytes * actions_of bytes → EntryFits (rows_of bytes) (get_or (entries_of bytes) k 255)
      at k h = rw fields.rowed (f k (rw (length-drop, e) (let g : k < header.rows * header.actions = rw (fields.rowed, fields.acting) at h in omega arith)))

  pub misfit : (((k : ℕ) → k < length (drop 8 bytes) → EntryFits header.rows (get_or (drop 8 bytes) k 255)) → ⊥) → WellFormed bytes → ⊥
  misfit n h = n at
    where
      at : (k : ℕ) → k < length (drop 8 bytes) → EntryFits header.rows (get_or (drop 8 bytes) k 255)
      at k g =
          rw fields.rowed at
          (h.entries k (rw (fields.rowed, fields.acting) (let l : k < length bytes - 8 = rw length-drop at g in omega (arith, whole_of h))))

-- a part of a front is the front of a part
drop-take : (m n : ℕ) (l : List ℕ) → drop m (take n l) ≡ take (n - m) (drop m l)
drop-take zero n l = ap (λ (k : ℕ). take k l) (let e : n ≡ n - 0 = omega arith in e)
drop-take (suc m) zero l = ap (λ (k : ℕ). take k (drop (suc m) l)) (let e : 0 ≡ 0 - suc m = omega arith in e)
drop-take (suc m) (suc n) [] = sym (take-nil (suc n - suc m))
drop-take (suc m) (suc n) (x ∷ l) = drop-take m n l ∙ ap (λ (k : ℕ). take k (drop m l)) (let e : n - m ≡ suc n - suc m = omega arith in e)

-- The table at the front of some bytes: its header is theirs.
word_of_part : (n : ℕ) (l : List ℕ) (at : ℕ) → at + 1 < 8 → word_at (take (8 + n) l) at ≡ word_at l at
word_of_part n l at h = rw (get_or-take (8 + n) l at 0 (omega arith), get_or-take (8 + n) l (at + 1) 0 (omega arith))

-- bytes with one header
same-header : (l m : List ℕ) → ((at : ℕ) → at + 1 < 8 → word_at l at ≡ word_at m at) → 8 ≤ length m → HeaderFits l → HeaderFits m
same-header l m same long h =
    record {
      long = long;
      type-low = omega (arith, h.type-low, same 0 (omega arith));
      type-high = omega (arith, h.type-high, same 0 (omega arith));
      actions-low = omega (arith, h.actions-low, same 2 (omega arith));
      actions-high = omega (arith, h.actions-high, same 2 (omega arith));
      rows-low = omega (arith, h.rows-low, same 4 (omega arith));
      rows-high = omega (arith, h.rows-high, same 4 (omega arith));
      offset = sym (same 6 (omega arith)) ∙ h.offset;
    }

module _ (bytes : List ℕ) where
  abbrev size : ℕ
  size = rows_of bytes * actions_of bytes

  front-header : HeaderFits bytes → HeaderFits (front_table bytes)
  front-header h =
      same-header bytes (front_table bytes) (λ at g. sym (word_of_part size bytes at g)) (omega (arith, h.long, length-take (8 + size) bytes)) h

  pub front-fields : (header : Header) → FieldsOf bytes header → FieldsOf (front_table bytes) header
  front-fields header f =
      record {
        fits = front-header f.fits;
        type = word_of_part size bytes 0 (omega arith) ∙ f.type;
        acting = word_of_part size bytes 2 (omega arith) ∙ f.acting;
        rowed = word_of_part size bytes 4 (omega arith) ∙ f.rowed;
      }

  -- its counts are theirs
  pub front-actions : actions_of (front_table bytes) ≡ actions_of bytes
  front-actions = word_of_part size bytes 2 (omega arith)

  pub front-rows : rows_of (front_table bytes) ≡ rows_of bytes
  front-rows = word_of_part size bytes 4 (omega arith)

  -- the length that a header gives, by its fields
  pub front_length : (header : Header) → FieldsOf (front_table bytes) header → table_length bytes ≡ 8 + header.rows * header.actions
  front_length header f =
      rw (← f.acting, ← f.rowed, front-actions, front-rows) refl

  -- the entries of a table of that length stand behind the header
  pub front-entries : (header : Header) (end : ℕ) → FieldsOf (front_table bytes) header → end ≡ 8 + header.rows * header.actions
      → take (end - 8) (drop 8 bytes) ≡ drop 8 (front_table bytes)
  front-entries header end f e =
      let n : end - 8 ≡ table_length bytes - 8 = ap (λ (k : ℕ). k - 8) (e ∙ sym (front_length header f)) in
      ap (λ (k : ℕ). take k (drop 8 bytes)) n ∙ sym (drop-take 8 (table_length bytes) bytes)

-- the rows of a table that passes 10 are a machine
pub machine : (bytes : List ℕ) → WellFormed bytes → Machine 255 (rows_of bytes) (actions_of bytes) (entries_of bytes)
machine bytes h =
    record { sized = length-drop 8 bytes ∙ (omega (arith, h.whole)); marked = omega (arith, h.header); closed = h.entries }

-- a table that passes 10, with its fields as read
module _ (bytes : List ℕ) (header : Header) (f : FormedAs bytes header) where
  pub rows_fit : RowsFit header.rows header.actions (drop 8 bytes)
  rows_fit =
      rw (← f.fields.rowed, ← f.fields.acting)
      (record {
        machine = machine bytes f.formed;
        rows-low = f.formed.header.rows-low;
        rows-high = f.formed.header.rows-high;
        actions-low = f.formed.header.actions-low;
        actions-high = f.formed.header.actions-high;
      })

  canonical : CanonicalRows header.rows header.actions (drop 8 bytes) → Canonical bytes
  canonical c = rw (f.fields.rowed, f.fields.acting) c

  pub loads-accepted : CanonicalRows header.rows header.actions (drop 8 bytes) → Loads bytes (accepted (mode_number header.mode) header.actions header.rows)
  loads-accepted c =
      rw (← f.fields.type, ← f.fields.acting, ← f.fields.rowed) (accepts (record { formed = f.formed; canonical = canonical c }))

  pub loads-refused : (CanonicalRows header.rows header.actions (drop 8 bytes) → ⊥) → Loads bytes (refused 11 0)
  loads-refused n = not-canonical f.formed (λ c. n (rw (f.fields.rowed, f.fields.acting) at c))
