-- A line's entry stays the same when words and lines follow.
use Rattle.std.proofs.Common.{◌≡◌, ℕ, zero, suc, ◌+◌, ◌<◌, ◌≤◌, List, [], ◌∷◌, ◌++◌, length, take, drop, sym, refl, ap, ◌∙◌, arith, length-append, Some, subst}
use Rattle.std.proofs.lemmas.List.{take-append-le, drop-append-le, length-drop, length-map, map-append}
use Rattle.std.proofs.Math.Seq.{drop-append_seam, take-length}
use Rattle.std.specs.Prelude.{slice_get}
use Rattle.std.specs.Option.{option_map}
use Rattle.std.proofs.lemmas.Option.{slice_get-map}
use Rattle.executor_core.specs.declared.line.Line.{Line}
use Rattle.executor_core.specs.declared.entry.Entry.{Entry}
use Rattle.executor_core.specs.Lines.{told, part, entry_at, entries_of, Within, Fitting, Logged, logged, followed, HasRoom}

pub within_more : (n m : ℕ) (ls : List Line) → n ≤ m → Within n ls → Within m ls
within_more n m [] le w = tt
within_more n m (l ∷ ls) le w = (let h = w.0 in omega arith, w.1, within_more n m ls le w.2)

pub within_snoc : (n : ℕ) (ls : List Line) (l : Line) → Within n ls → l.from + l.count ≤ n → l.count ≤ 16 → Within n (ls ++ l ∷ [])
within_snoc n [] l w ends few = (ends, few, tt)
within_snoc n (x ∷ ls) l w ends few = (w.0, w.1, within_snoc n ls l w.2 ends few)

pub within_at : (n : ℕ) (ls : List Line) (k : ℕ) (l : Line) → Within n ls → slice_get ls k ≡ Some l → (l.from + l.count ≤ n) × (l.count ≤ 16)
within_at n [] k l w at = absurd cc
within_at n (x ∷ ls) zero l w at = let same : x ≡ l = cc in rw (← same) (w.0, w.1)
within_at n (x ∷ ls) (suc k) l w at = within_at n ls k l w.2 at

part_more : (words more : List ℕ) (l : Line) → l.from + l.count ≤ length words → part (words ++ more) l ≡ part words l
part_more words more l ends = let a = length-drop l.from words in
    ap (take l.count) (drop-append-le l.from words more (omega arith)) ∙ take-append-le l.count (drop l.from words) more (omega arith)

pub same_entries : (words more : List ℕ) (ls : List Line) → Within (length words) ls → entries_of (words ++ more) ls ≡ entries_of words ls
same_entries words more [] w = refl
same_entries words more (l ∷ ls) w = ap (λ (ws : List ℕ). told l.caller l.deed ws ∷ entries_of (words ++ more) ls) (part_more words more l w.0) ∙ ap (λ (es : List Entry). entry_at words l ∷ es) (same_entries words more ls w.2)

-- a line more, with its words
pub still_fits : (words more words' : List ℕ) (wr wr' : ℕ) (ls ls' : List Line) (room room' : ℕ) (l : Line) → Fitting words wr ls room → length ls < room → length more ≤ 16 → l.from ≡ length words → l.count ≡ length more
    → words' ≡ words ++ more → wr' ≡ wr → ls' ≡ ls ++ l ∷ [] → room' ≡ room → Fitting words' wr' ls' room'
still_fits words more words' wr wr' ls ls' room room' l f spare few from count longer wr_same added room_same =
    let n : length words' ≡ length words + length more = ap length longer ∙ length-append words more in
    let m : length ls' ≡ length ls + 1 = ap length added ∙ length-append ls (l ∷ []) in let a = f.few in let b = f.wide in let c = f.small in record {
      within = subst (Within (length words')) (sym added) (within_snoc (length words') ls l (within_more (length words) (length words') ls (omega arith) f.within) (omega arith) (omega arith));
      few = omega arith;
      wide = omega arith;
      small = omega arith;
    }

-- there is room for the words
pub word_room : (words more : List ℕ) (wr : ℕ) (ls : List Line) (room : ℕ) → Fitting words wr ls room → length ls < room → length more ≤ 16 → length words + length more ≤ wr
word_room words more wr ls room f spare few = let a = f.few in let b = f.wide in omega arith

-- the entries are those of before and the line's
pub pushed : (words more words' : List ℕ) (ls ls' : List Line) (l : Line) → Within (length words) ls → l.from ≡ length words → l.count ≡ length more → words' ≡ words ++ more → ls' ≡ ls ++ l ∷ [] → entries_of words' ls' ≡ entries_of words ls ++ told l.caller l.deed more ∷ []
pushed words more words' ls ls' l within from count longer added =
    let here : part (words ++ more) l ≡ more = ap (λ (n : ℕ). take l.count (drop n (words ++ more))) from ∙ ap (take l.count) (drop-append_seam words more) ∙ ap (λ (n : ℕ). take n more) count ∙ take-length more in
    ap (λ (ws : List ℕ). entries_of ws ls') longer ∙ ap (entries_of (words ++ more)) added ∙ map-append (entry_at (words ++ more)) ls (l ∷ [])
    ∙ ap (λ (es : List Entry). es ++ entry_at (words ++ more) l ∷ []) (same_entries words more ls within) ∙ ap (λ (ws : List ℕ). entries_of words ls ++ told l.caller l.deed ws ∷ []) here

-- the line at a place, and its entry
pub at_place : (words : List ℕ) (wr : ℕ) (ls : List Line) (room k : ℕ) (l : Line) → Fitting words wr ls room → slice_get ls k ≡ Some l → (l.from + l.count ≤ length words) × (l.count ≤ 16) × (slice_get (entries_of words ls) k ≡ Some (entry_at words l))
at_place words wr ls room k l f at = let h = within_at (length words) ls k l f.within at in (h.0, h.1, slice_get-map (entry_at words) ls k ∙ ap (option_map (entry_at words)) at)

pub spare : (words : List ℕ) (ls : List Line) (room : ℕ) (old : Logged) → logged (entries_of words ls) room ≡ old → HasRoom old → length ls < room
spare words ls room old is has = let h = subst HasRoom (sym is) has in let e = length-map ls (entry_at words) in omega arith

pub place_in : (words : List ℕ) (ls : List Line) (room k : ℕ) (old : Logged) → logged (entries_of words ls) room ≡ old → k < length old.entries → k < length ls
place_in words ls room k old is below = let h = subst (λ (o : Logged). k < length o.entries) (sym is) below in let e = length-map ls (entry_at words) in omega arith

pub one_more : (es es' : List Entry) (room room' : ℕ) (old : Logged) (e : Entry) → es' ≡ es ++ e ∷ [] → room' ≡ room → logged es room ≡ old → logged es' room' ≡ followed old e
one_more es es' room room' old e longer same is = ap (λ (l : List Entry). logged l room') longer ∙ ap (logged (es ++ e ∷ [])) same ∙ ap (λ (l : Logged). followed l e) is

take_suc : (es : List Entry) (k : ℕ) (e : Entry) → slice_get es k ≡ Some e → take (suc k) es ≡ take k es ++ e ∷ []
take_suc [] k e at = absurd cc
take_suc (x ∷ es) zero e at = let same : x ≡ e = cc in ap (λ (y : Entry). y ∷ []) same
take_suc (x ∷ es) (suc k) e at = ap (λ (l : List Entry). x ∷ l) (take_suc es k e at)

-- a copy that goes up takes one entry more
pub take_next : (es : List Entry) (k : ℕ) (e : Entry) → slice_get es k ≡ Some e → take (k + 1) es ≡ take k es ++ e ∷ []
take_next es k e at = let n : k + 1 ≡ suc k = omega arith in ap (λ (m : ℕ). take m es) n ∙ take_suc es k e at
