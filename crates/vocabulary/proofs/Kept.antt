-- What the table of names keeps, over lists of names.
use Rattle.std.proofs.Common.{◌≡◌, ℕ, zero, suc, ◌<◌, ◌≤◌, Bool, true, false, cond, not, ◌||◌, eqb, List, [], ◌∷◌, ◌++◌, map, length, get_or, set, Some, None, Ok, Err, Option, IsSome, OnSome, IfNone, length-append, sym, refl, ap, ◌∙◌, arith}
use Rattle.std.specs.List.{list_any}
use Rattle.std.specs.Str.{bytes_eq}
use Rattle.std.specs.Option.{option_map}
use Rattle.vocabulary.specs.declared.kind.Kind.{Kind}
use Rattle.vocabulary.specs.declared.name.Name.{Name}
use Rattle.std.proofs.lemmas.Bool.{and_parts, and_from, or_parts, or_from, not-true, not_from_false}
use Rattle.std.proofs.lemmas.Option.{slice_get_past}
use Rattle.std.proofs.lemmas.List.{map_push}
use Rattle.std.proofs.lemmas.Bool.Decides.{nat_tests}
use Rattle.vocabulary.specs.Kinds.{code_of}
use Rattle.std.proofs.lemmas.List.Folds.{list_any-append}
use Rattle.vocabulary.specs.declared.fault.NameFault.TheVariants.{LabelLength, LabelByte}
use Rattle.vocabulary.specs.Limits.{most_names}
use Rattle.vocabulary.specs.Labels.{has_label_length, is_graphic_text}
use Rattle.vocabulary.specs.Entities.{label_or_fault, label_of, Entity, entity, is_taken, all_distinct, is_named, kind_at, reseed}

-- no name has a number past the last
pub kind_past : (es : List Entity) (i : ℕ) → length es ≤ i → None ≡ kind_at es i
kind_past es i h = sym (ap (option_map (λ (d : Entity). d.kind)) (slice_get_past es i h))

eqb_sym : (a b : ℕ) → eqb a b ≡ eqb b a
eqb_sym a b = grind (arith, nat_tests)

same_bytes_sym : (xs ys : List ℕ) → bytes_eq xs ys ≡ bytes_eq ys xs
same_bytes_sym [] [] = refl
same_bytes_sym [] (y ∷ ys) = refl
same_bytes_sym (x ∷ xs) [] = refl
same_bytes_sym (x ∷ xs) (y ∷ ys) = rw (same_bytes_sym xs ys, eqb_sym x y) refl

-- two names are alike either way round
alike : (d e : Entity) → is_named d.kind d.label e ≡ is_named e.kind e.label d
alike d e = rw (eqb_sym (code_of e.kind) (code_of d.kind), same_bytes_sym e.label d.label) refl

-- a name that no other is like may be added
pub distinct_push : (es : List Entity) (e : Entity) → all_distinct es ≡ true → is_taken e.kind e.label es ≡ false → all_distinct (es ++ e ∷ []) ≡ true
distinct_push [] e h n = refl
distinct_push (d ∷ es) e h n =
    let p = and_parts (not (is_taken d.kind d.label es)) (all_distinct es) h in
    let q = or_parts (is_named e.kind e.label d) (is_taken e.kind e.label es) n in
    let apart : (is_taken d.kind d.label (es ++ e ∷ [])) ≡ false =
    list_any-append (is_named d.kind d.label) es (e ∷ []) ∙ or_from _ _ (not-true _ p.0) (or_from _ _ (alike d e ∙ q.0) refl) in
    and_from _ _ (not_from_false _ apart) (distinct_push es e p.1 q.1)

pub names_push : (ns later : List Name) (n : Name) → later ≡ ns ++ n ∷ [] → all_distinct (map entity ns) ≡ true → is_taken n.kind (label_of n.label) (map entity ns) ≡ false → all_distinct (map entity later) ≡ true
names_push ns later n e h clear = rw (e, map_push entity ns n) (distinct_push (map entity ns) (entity n) h clear)

-- a label that is accepted is the one that was offered
pub labelling_same : (l m : List ℕ) → Ok m ≡ label_or_fault l → m ≡ l
labelling_same l m e = go (not (has_label_length l)) (not (is_graphic_text l)) e
  where
    go : (a b : Bool) → Ok m ≡ cond a (Err LabelLength) (cond b (Err LabelByte) (Ok l)) → m ≡ l
    go true b h = absurd (let z : ◌≡◌ {A = ℕ} 0 1 = cc in omega arith)
    go false true h = absurd (let z : ◌≡◌ {A = ℕ} 0 1 = cc in omega arith)
    go false false h = cc

-- seeding changes nothing but what is seeded
pub reseed_past : (es : List Entity) (n : ℕ) (on : Bool) → length es ≤ n → es ≡ reseed es n on
reseed_past [] n on h = refl
reseed_past (e ∷ es) zero on h = absurd (omega arith)
reseed_past (e ∷ es) (suc n) on h = ap (λ l. e ∷ l) (reseed_past es n on (omega arith))

pub reseed_length : (es : List Entity) (n : ℕ) (on : Bool) → length (reseed es n on) ≡ length es
reseed_length [] n on = refl
reseed_length (e ∷ es) zero on = refl
reseed_length (e ∷ es) (suc n) on = ap suc (reseed_length es n on)

pub reseed_kinds : (es : List Entity) (n : ℕ) (on : Bool) (m : ℕ) → kind_at (reseed es n on) m ≡ kind_at es m
reseed_kinds [] n on m = refl
reseed_kinds (e ∷ es) zero on zero = refl
reseed_kinds (e ∷ es) zero on (suc m) = refl
reseed_kinds (e ∷ es) (suc n) on zero = refl
reseed_kinds (e ∷ es) (suc n) on (suc m) = reseed_kinds es n on m

reseed_held : (k : Kind) (l : List ℕ) (es : List Entity) (n : ℕ) (on : Bool) → is_taken k l (reseed es n on) ≡ is_taken k l es
reseed_held k l [] n on = refl
reseed_held k l (e ∷ es) zero on = refl
reseed_held k l (e ∷ es) (suc n) on = ap (λ b. is_named k l e || b) (reseed_held k l es n on)

pub reseed_distinct : (es : List Entity) (n : ℕ) (on : Bool) → all_distinct (reseed es n on) ≡ all_distinct es
reseed_distinct [] n on = refl
reseed_distinct (e ∷ es) zero on = refl
reseed_distinct (e ∷ es) (suc n) on = rw (reseed_held e.kind e.label es n on, reseed_distinct es n on) refl

-- a name written back with another mark
pub names_reseed : (ns : List Name) (i : ℕ) (n m : Name) (on : Bool) → i < length ns → n ≡ get_or ns i n → entity m ≡ record { kind = n.kind; label = label_of n.label; seeded = on } → map entity (set ns i m) ≡ reseed (map entity ns) i on
names_reseed [] i n m on h e s = absurd (omega arith)
names_reseed (x ∷ ns) zero n m on h e s = ap (λ d. d ∷ map entity ns) (s ∙ ap (λ (y : Name). record { kind = y.kind; label = label_of y.label; seeded = on }) e)
names_reseed (x ∷ ns) (suc i) n m on h e s = ap (λ l. entity x ∷ l) (names_reseed ns i n m on (omega arith) e s)

pub reseed_apart : (ns later : List Name) (n : ℕ) (on : Bool) → map entity later ≡ reseed (map entity ns) n on → all_distinct (map entity ns) ≡ true → all_distinct (map entity later) ≡ true
reseed_apart ns later n on e h = ap all_distinct e ∙ reseed_distinct (map entity ns) n on ∙ h

-- a test of the names is one of the table's entries
pub held_names : (k : Kind) (l : List ℕ) (ns : List Name) → list_any (λ n. is_named k l (entity n)) ns ≡ is_taken k l (map entity ns)
held_names k l [] = refl
held_names k l (n ∷ ns) = ap (λ b. is_named k l (entity n) || b) (held_names k l ns)

-- a name was added where there was room
pub names_pushed : (limit : ℕ) (r : Option ℕ) (ns later : List Name) (n : Name) → limit ≤ most_names → (IsSome r → length ns < limit) → OnSome r (later ≡ ns ++ n ∷ []) → IfNone r (later ≡ ns) → length ns ≤ most_names → all_distinct (map entity ns) ≡ true → is_taken n.kind (label_of n.label) (map entity ns) ≡ false → (length later ≤ most_names) × (all_distinct (map entity later) ≡ true)
names_pushed limit (Some k) ns later n most room e stay few h clear = (omega (arith, room refl, ap length e, length-append ns (n ∷ [])), names_push ns later n e h clear)
names_pushed limit None ns later n most room e stay few h clear = (rw stay few, ap (λ (l : List Name). all_distinct (map entity l)) stay ∙ h)
