-- Naming is refused exactly if some refusal fits, and then by the one that decides.
use Rattle.std.proofs.Common.{◌≡◌, ◌⊎◌, inl, inr, ⊎_elim, ℕ, ◌<◌, ◌≤◌, Bool, true, false, cond, eqb, leb, not, ◌&&◌, List, [], ◌∷◌, ◌++◌, length, Some, None, Ok, Err, Result, Any, sym, refl, ap, ◌∙◌, subst, arith}
use Rattle.refusals.proofs.Somewhere.{any_none, any_first, any_later, any_split, any_each}
use Rattle.std.proofs.lemmas.Bool.{false≢true, leb-true, leb-false, eqb-true, eq-eqb, and_parts, and_from}
use Rattle.std.proofs.lemmas.Bool.Decides.{nat_tests}
use Rattle.std.proofs.lemmas.List.Folds.{Any-from_list_any, list_any-from_Any}
use Rattle.std.proofs.lemmas.Slice.Eq.{bytes_eq-Decides}
use Rattle.std.specs.Str.{bytes_eq}
use Rattle.std.specs.Option.{ok_or}
use Rattle.refusals.specs.declared.reason.Reason.{Reason}
use Rattle.refusals.specs.declared.reason.Reason.TheVariants as Reason'
use Rattle.refusals.specs.declared.refusal.Refusal.{Refusal}
use Rattle.refusals.specs.Refusals.{reason_number, refusal_at}
use Rattle.refusals.specs.Turns.{accepted_turn, refused_turn}
use Rattle.refusals.specs.Choice.{is_item, Decides, Judged, refusal_of}
use Rattle.refusals.proofs.Choosing.{decides_by_number}
use Rattle.vocabulary.specs.declared.kind.Kind.{Kind}
use Rattle.vocabulary.specs.declared.kind.Kind.TheVariants.{Concept, Role, Individual}
use Rattle.vocabulary.specs.declared.name.NameId.{NameId}
use Rattle.vocabulary.specs.declared.fault.NameFault.{NameFault}
use Rattle.vocabulary.specs.declared.fault.NameFault.TheVariants as Fault'
use Rattle.vocabulary.specs.Limits.{most_names, longest_label}
use Rattle.vocabulary.specs.Kinds.{code_of, same_kind}
use Rattle.vocabulary.specs.Labels.{has_label_length, is_graphic_byte, is_graphic_text}
use Rattle.vocabulary.specs.Entities.{Entity, kind_or_fault, label_or_fault, is_named, is_taken}
use Rattle.vocabulary.specs.Refusals.{name_refusal}
use Rattle.vocabulary.specs.Naming.{naming, naming_turn, new_name_turn, new_name}
use Rattle.vocabulary.specs.Fitting.{NameIsWrong, NamingFits}

module _ (names : List Entity) (kind : ℕ) (label : List ℕ) where
  -- the wrongs of a naming
  abbrev BadKind : Type 0
  BadKind = NameIsWrong names kind label Reason'.BadKind

  abbrev LabelLength : Type 0
  LabelLength = NameIsWrong names kind label Reason'.LabelLength

  abbrev LabelByte : Type 0
  LabelByte = NameIsWrong names kind label Reason'.LabelByte

  abbrev LabelTaken : Type 0
  LabelTaken = NameIsWrong names kind label Reason'.LabelTaken

  abbrev NamesFull : Type 0
  NamesFull = NameIsWrong names kind label Reason'.NamesFull

  -- whatever is wrong, it is one of the five, with its number
  each_wrong : (P : ℕ → Type 0) → (BadKind → P 5) → (LabelLength → P 6) → (LabelByte → P 7) → (LabelTaken → P 8) → (NamesFull → P 9) → (q : Reason) → NameIsWrong names kind label q → P (reason_number q)
  each_wrong P a b c d e Reason'.BadKind w = a w
  each_wrong P a b c d e Reason'.LabelLength w = b w
  each_wrong P a b c d e Reason'.LabelByte w = c w
  each_wrong P a b c d e Reason'.LabelTaken w = d w
  each_wrong P a b c d e Reason'.NamesFull w = e w
  each_wrong P a b c d e _ w = absurd w

  abbrev Fits : Refusal → Type 0
  Fits = NamingFits names kind label

  -- a wrong decides if no other has a smaller number
  decided : (q : Reason) → is_item (refusal_at q 0) ≡ false → NameIsWrong names kind label q → ((s : Reason) → NameIsWrong names kind label s → reason_number q ≤ reason_number s) → Decides Fits (refusal_at q 0)
  decided q book w least =
      decides_by_number Fits (refusal_at q 0) book (record { wrong = w; place = refl }) (λ s f. (least s.reason f.wrong, f.place))

  -- nothing is wrong
  none_fits : ¬ BadKind → ¬ LabelLength → ¬ LabelByte → ¬ LabelTaken → ¬ NamesFull → (s : Refusal) → ¬ Fits s
  none_fits a b c d e s f = each_wrong (λ n. ⊥) a b c d e s.reason f.wrong

  -- the kind byte
  kind_unknown : (f : NameFault) → kind_or_fault kind ≡ Err f → (f ≡ Fault'.BadKind) × BadKind
  kind_unknown f = go (eqb kind 0) (eqb kind 1) (eqb kind 2) refl refl refl
    where
      go : (a b c : Bool) → eqb kind 0 ≡ a → eqb kind 1 ≡ b → eqb kind 2 ≡ c → ok_or (cond a (Some Concept) (cond b (Some Role) (cond c (Some Individual) None))) Fault'.BadKind ≡ Err f → (f ≡ Fault'.BadKind) × BadKind
      go true b c p q r h = absurd (let z : ◌≡◌ {A = ℕ} 0 1 = cc in omega arith)
      go false true c p q r h = absurd (let z : ◌≡◌ {A = ℕ} 0 1 = cc in omega arith)
      go false false true p q r h = absurd (let z : ◌≡◌ {A = ℕ} 0 1 = cc in omega arith)
      go false false false p q r h = (cc, grind (arith, nat_tests))

  kind_known : (k : Kind) → kind_or_fault kind ≡ Ok k → code_of k ≡ kind
  kind_known k = go (eqb kind 0) (eqb kind 1) (eqb kind 2) refl refl refl
    where
      go : (a b c : Bool) → eqb kind 0 ≡ a → eqb kind 1 ≡ b → eqb kind 2 ≡ c → ok_or (cond a (Some Concept) (cond b (Some Role) (cond c (Some Individual) None))) Fault'.BadKind ≡ Ok k → code_of k ≡ kind
      go true b c p q r h = let z : Concept ≡ k = cc in ap code_of (sym z) ∙ sym (eqb-true kind 0 p)
      go false true c p q r h = let z : Role ≡ k = cc in ap code_of (sym z) ∙ sym (eqb-true kind 1 q)
      go false false true p q r h = let z : Individual ≡ k = cc in ap code_of (sym z) ∙ sym (eqb-true kind 2 r)
      go false false false p q r h = absurd (let z : ◌≡◌ {A = ℕ} 0 1 = cc in omega arith)

  code_small : (k : Kind) → code_of k ≤ 2
  code_small Concept = omega arith
  code_small Role = omega arith
  code_small Individual = omega arith

  kind_right : (k : Kind) → kind_or_fault kind ≡ Ok k → ¬ BadKind
  kind_right k h w = let e = kind_known k h in let l = code_small k in omega arith

  -- the label's length
  length_wrong : has_label_length label ≡ false → LabelLength
  length_wrong = go (leb 1 (length label)) (leb (length label) longest_label) refl refl
    where
      go : (a b : Bool) → leb 1 (length label) ≡ a → leb (length label) longest_label ≡ b → (a && b) ≡ false → LabelLength
      go false b e f h = inl (let none = leb-false 1 (length label) e in omega arith)
      go true b e f h = inr (leb-false (length label) longest_label (f ∙ h))

  length_right : has_label_length label ≡ true → ¬ LabelLength
  length_right h w =
      let p = and_parts (leb 1 (length label)) (leb (length label) longest_label) h in
      let few = leb-true 1 (length label) p.0 in
      let many = leb-true (length label) longest_label p.1 in
      ⊎_elim (λ none. omega arith) (λ more. omega arith) w

  -- the label's bytes
  byte_wrong : (b : ℕ) → is_graphic_byte b ≡ false → (b < 33) ⊎ (126 < b)
  byte_wrong b = go (leb 33 b) (leb b 126) refl refl
    where
      go : (l g : Bool) → leb 33 b ≡ l → leb b 126 ≡ g → (l && g) ≡ false → (b < 33) ⊎ (126 < b)
      go false g e f h = inl (leb-false 33 b e)
      go true g e f h = inr (leb-false b 126 (f ∙ h))

  byte_right : (b : ℕ) → is_graphic_byte b ≡ true → ¬ ((b < 33) ⊎ (126 < b))
  byte_right b h w =
      let p = and_parts (leb 33 b) (leb b 126) h in
      let least = leb-true 33 b p.0 in
      let most = leb-true b 126 p.1 in
      ⊎_elim (λ less. omega arith) (λ more. omega arith) w

  bytes_wrong : (bs : List ℕ) → is_graphic_text bs ≡ false → Any (λ byte. (byte < 33) ⊎ (126 < byte)) bs
  bytes_wrong [] h = absurd (false≢true (sym h))
  bytes_wrong (b ∷ bs) h = go (bytes_wrong bs) (is_graphic_byte b) refl h
    where
      go : (is_graphic_text bs ≡ false → Any (λ byte. (byte < 33) ⊎ (126 < byte)) bs) → (t : Bool) → is_graphic_byte b ≡ t → (t && is_graphic_text bs) ≡ false → Any (λ byte. (byte < 33) ⊎ (126 < byte)) (b ∷ bs)
      go later false e h = any_first _ b bs (byte_wrong b e)
      go later true e h = any_later _ b bs (later h)

  bytes_right : (bs : List ℕ) → is_graphic_text bs ≡ true → ¬ Any (λ byte. (byte < 33) ⊎ (126 < byte)) bs
  bytes_right [] h w = any_none _ w
  bytes_right (b ∷ bs) h w =
      let p = and_parts (is_graphic_byte b) (is_graphic_text bs) h in
      ⊎_elim (byte_right b p.0) (bytes_right bs p.1) (any_split _ b bs w)

  -- the names that there are
  taken_wrong : (k : Kind) → code_of k ≡ kind → is_taken k label names ≡ true → LabelTaken
  taken_wrong k is h =
      any_each _ _ names (λ e t.
      let p = and_parts (same_kind e.kind k) (bytes_eq e.label label) t in
      (eqb-true (code_of e.kind) (code_of k) p.0 ∙ is, (bytes_eq-Decides e.label label).0 p.1))
      (Any-from_list_any (is_named k label) names h)

  taken_right : (k : Kind) → code_of k ≡ kind → is_taken k label names ≡ false → ¬ LabelTaken
  taken_right k is h w =
      false≢true (sym h ∙ list_any-from_Any (is_named k label) names (any_each _ _ names (λ e t.
      and_from _ _ (eq-eqb (code_of e.kind) (code_of k) (t.0 ∙ sym is)) ((bytes_eq-Decides e.label label).1 t.1)) w))

  abbrev Told : Result NameId NameFault → Type 0
  Told r = Judged Fits (refusal_of name_refusal r)

  -- where the kind byte and the label are right
  names_judged : (k : Kind) → code_of k ≡ kind → ¬ BadKind → ¬ LabelLength → ¬ LabelByte → Told (new_name_turn names k label).answer
  names_judged k is a b c = go (is_taken k label names) (leb most_names (length names)) refl refl
    where
      go : (t full : Bool) → is_taken k label names ≡ t → leb most_names (length names) ≡ full → Told (cond t (refused_turn names Fault'.LabelTaken) (cond full (refused_turn names Fault'.TableFull) (accepted_turn (names ++ new_name k label ∷ []) (record { 0 = length names })))).answer
      go true full e f =
          decided Reason'.LabelTaken refl (taken_wrong k is e)
          (each_wrong (λ n. 8 ≤ n) (λ w. absurd (a w)) (λ w. absurd (b w)) (λ w. absurd (c w)) (λ w. omega arith) (λ w. omega arith))
      go false true e f =
          decided Reason'.NamesFull refl (leb-true most_names (length names) f)
          (each_wrong (λ n. 9 ≤ n) (λ w. absurd (a w)) (λ w. absurd (b w)) (λ w. absurd (c w)) (λ w. absurd (taken_right k is e w)) (λ w. omega arith))
      go false false e f =
          none_fits a b c (taken_right k is e) (λ w. let l = leb-false most_names (length names) f in omega arith)

  label_judged : (k : Kind) → code_of k ≡ kind → ¬ BadKind → Told (naming_turn names (Ok k) (label_or_fault label)).answer
  label_judged k is a = go (has_label_length label) (is_graphic_text label) refl refl
    where
      go : (fit clean : Bool) → has_label_length label ≡ fit → is_graphic_text label ≡ clean → Told (naming_turn names (Ok k) (cond (not fit) (Err Fault'.LabelLength) (cond (not clean) (Err Fault'.LabelByte) (Ok label)))).answer
      go false clean e f =
          decided Reason'.LabelLength refl (length_wrong e)
          (each_wrong (λ n. 6 ≤ n) (λ w. absurd (a w)) (λ w. omega arith) (λ w. omega arith) (λ w. omega arith) (λ w. omega arith))
      go true false e f =
          decided Reason'.LabelByte refl (bytes_wrong label f)
          (each_wrong (λ n. 7 ≤ n) (λ w. absurd (a w)) (λ w. absurd (length_right e w)) (λ w. omega arith) (λ w. omega arith) (λ w. omega arith))
      go true true e f = names_judged k is a (length_right e) (bytes_right label f)

  kind_judged : (o : Result Kind NameFault) → kind_or_fault kind ≡ o → Told (naming_turn names o (label_or_fault label)).answer
  kind_judged (Err f) e =
      let u = kind_unknown f e in
      subst (λ g. Judged Fits (Some (name_refusal g))) (sym u.0) (decided Reason'.BadKind refl u.1
      (each_wrong (λ n. 5 ≤ n) (λ w. omega arith) (λ w. omega arith) (λ w. omega arith) (λ w. omega arith) (λ w. omega arith)))
  kind_judged (Ok k) e = label_judged k (kind_known k e) (kind_right k e)

  -- naming is refused exactly if some refusal fits, and then by the one that decides
  pub naming_judged : Told (naming names kind label).answer
  unfolding naming
  naming_judged = kind_judged (kind_or_fault kind) refl

-- the same of the answer that was given
pub answer_judged : (names : List Entity) (kind : ℕ) (label : List ℕ) (r : Result NameId NameFault) → r ≡ (naming names kind label).answer → Judged (NamingFits names kind label) (refusal_of name_refusal r)
answer_judged names kind label r e =
    subst (λ a. Judged (NamingFits names kind label) (refusal_of name_refusal a)) (sym e) (naming_judged names kind label)
