-- The records of names, loaded into a book with no axiom, make these names one after the other, none of them seeded.
use Rattle.std.proofs.Common.{◌≡◌, ℕ, ◌<◌, ◌≤◌, true, false, not, ◌||◌, leb, List, [], ◌∷◌, ◌++◌, map, length, Ok, Result, sym, refl, ap, ◌∙◌, subst, ⊎_elim, append-nil, arith, length-append}
use lib.ListN.{length-map}
use lib.Seq.{append_snoc}
use Rattle.std.proofs.lemmas.Slice.Eq.{bytes_eq-Decides}
use Rattle.std.proofs.lemmas.List.{map_push}
use Rattle.std.proofs.lemmas.Bool.{both_ways, not-true, eqb-true, eq-eqb, leb-true, cases_Bool, and_parts, and_from, or_parts, or_from}
use Rattle.vocabulary.specs.declared.fault.NameFault.{NameFault}
use Rattle.vocabulary.specs.declared.kind.Kind.{Kind}
use Rattle.vocabulary.specs.declared.kind.Kind.TheVariants.{Concept, Role, Individual}
use Rattle.vocabulary.specs.declared.name.NameId.{NameId}
use Rattle.vocabulary.specs.Entities.{Entity, kind_or_fault, label_or_fault, is_named, is_taken, all_distinct}
use Rattle.vocabulary.specs.Kinds.{code_of}
use Rattle.vocabulary.specs.Labels.{has_label_length, is_graphic_text}
use Rattle.std.specs.List.{list_all}
use Rattle.refusals.specs.Turns.{Turn, accepted_turn}
use Rattle.vocabulary.specs.Naming.{new_name}
use Rattle.std.proofs.lemmas.List.Folds.{list_any-append}
use Rattle.vocabulary.proofs.Turns.{naming_done}
use Rattle.book.specs.Contents.{Contents}
use Rattle.part.specs.Parts.{name_entry}
use Rattle.book.specs.Proper.{well_labelled}
use Rattle.records.specs.declared.kind.RecordKind.TheVariants as Kind'
use Rattle.records.specs.Taking.{IsTaken, AreTaken}
use Rattle.vocabulary.specs.Limits.{most_names, longest_label}

-- the name as it is before it is seeded
abbrev pub unseeded : Entity → Entity
unseeded e = new_name e.kind e.label

-- the contents with these names, none of them seeded, and with no axiom
abbrev pub plain : List Entity → Contents
plain ns = record { names = map unseeded ns; axioms = [] }

-- the byte of a kind stands for it
pub kind_back : (k : Kind) → Ok k ≡ kind_or_fault (code_of k)
kind_back Concept = refl
kind_back Role = refl
kind_back Individual = refl

-- two names are alike either way round
named_back : (d e : Entity) → is_named e.kind e.label d ≡ true → is_named d.kind d.label e ≡ true
named_back d e h =
    let p = and_parts _ _ h in
    and_from _ _ (eq-eqb _ _ (sym (eqb-true _ _ p.0))) ((bytes_eq-Decides e.label d.label).1 (sym ((bytes_eq-Decides d.label e.label).0 p.1)))

-- whether a name is held hangs on no seed
held_unseeded : (k : Kind) (l : List ℕ) (es : List Entity) → is_taken k l (map unseeded es) ≡ is_taken k l es
held_unseeded k l [] = refl
held_unseeded k l (e ∷ es) = ap (λ t. is_named k l e || t) (held_unseeded k l es)

-- of distinct names, none is held by those before it
not_held : (pre : List Entity) (e : Entity) (es : List Entity) → all_distinct (pre ++ e ∷ es) ≡ true → is_taken e.kind e.label pre ≡ false
not_held [] e es h = refl
not_held (d ∷ pre) e es h =
    let p = and_parts (not (is_taken d.kind d.label (pre ++ e ∷ es))) _ h in
    let q = or_parts _ _ (sym (list_any-append (is_named d.kind d.label) pre (e ∷ es)) ∙ not-true _ p.0) in
    let other : is_named d.kind d.label e ≡ false = (or_parts _ _ q.1).0 in
    or_from _ _ (⊎_elim (λ t. absurd (both_ways _ other (named_back d e t))) (λ t. t) (cases_Bool (is_named e.kind e.label d))) (not_held pre e es p.1)

-- one name
name_taken : (pre : List Entity) (e : Entity) (es : List Entity) → well_labelled e ≡ true → all_distinct (pre ++ e ∷ es) ≡ true → length pre < most_names → IsTaken (plain pre) (name_entry e) (plain (pre ++ e ∷ []))
name_taken pre e es good apart room =
    let p = and_parts (has_label_length e.label) (is_graphic_text e.label) good in
    let short = leb-true (length e.label) longest_label (and_parts (leb 1 (length e.label)) _ p.0).1 in
    let label : Ok e.label ≡ label_or_fault e.label = rw (p.0, p.1) refl in
    let free = held_unseeded e.kind e.label pre ∙ not_held pre e es apart in
    let turn = naming_done (map unseeded pre) (code_of e.kind) e.label e.kind e.label (kind_back e.kind) label free (omega (arith, length-map pre unseeded)) in
    record {
      kind = Kind'.Name;
      known = refl;
      short = omega arith;
      call = record {
        kind = code_of e.kind;
        label = e.label;
        id = record { 0 = length (map unseeded pre) };
        is_body = refl;
        accepted =
            ap (λ (t : Turn (List Entity) (Result NameId NameFault)). record { state = record { names = t.state; axioms = [] }; answer = t.answer }) turn ∙
            ap (λ ns. accepted_turn (record { names = ns; axioms = [] }) (record { 0 = length (map unseeded pre) })) (sym (map_push unseeded pre e));
      };
    }

-- all names, after those that there are
pub names_taken : (pre es all : List Entity) → all ≡ pre ++ es → list_all well_labelled es ≡ true → all_distinct all ≡ true → length all ≤ most_names → AreTaken (plain pre) (map name_entry es) (plain all)
names_taken pre [] all is good apart few = ap plain (sym (is ∙ append-nil pre))
names_taken pre (e ∷ es) all is good apart few =
    let p = and_parts (well_labelled e) _ good in
    let long = ap length is ∙ length-append pre (e ∷ es) in (
      plain (pre ++ e ∷ []),
      name_taken pre e es p.0 (subst (λ l. all_distinct l ≡ true) is apart) (omega arith),
      names_taken (pre ++ e ∷ []) es all (is ∙ sym (append_snoc pre e es)) p.1 apart few,
    )
