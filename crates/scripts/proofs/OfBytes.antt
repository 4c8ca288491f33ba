-- What a line asks for is of bytes.
use Rattle.std.proofs.Common.{◌≡◌, ◌<◌, ◌+◌, ◌-◌, ◌*◌, ℕ, Bool, true, false, cond, List, [], ◌∷◌, ◌++◌, Some, None, Ok, Err, Option, Result, refl, arith, nat_le, ◌&&◌, bytes_eq, codes, subst}
use Rattle.std.proofs.lemmas.Bool.{and_from, and_parts, lt-ltb, leb-true}
use Rattle.std.specs.Option.{option_and_then, option_map}
use Rattle.records.specs.Files.{all_bytes}
use Rattle.runs.specs.Promise.{AreOfBytes, is_of_bytes}
use Rattle.runs.specs.Steps.{Step}
use Rattle.scripts.specs.declared.halt.LineFault.{LineFault}
use Rattle.scripts.specs.declared.verb.Verb.{Verb}
use Rattle.scripts.specs.declared.verb.Verb.TheVariants as Verb'
use Rattle.scripts.specs.Hex.{before, bytes_value, digit_of, from_range, pair_value, pairs_value}
use Rattle.scripts.specs.Lines.{Asked, Taken, taken, stopped, begun, is_comment, line_request, next, request_from, request_of_words, settled, whole, word, words}
use Rattle.scripts.specs.Scripts.{calls_of}
use Rattle.scripts.specs.Words.{byte_value, number_value, pile_value, verb_named}

-- what is said of a value, if there is one
abbrev pub OfSome : {X : Type 0} → (X → Type 0) → Option X → Type 0
OfSome P (Some x) = P x
OfSome P None = Unit {0}

abbrev pub OfOk : {X F : Type 0} → (X → Type 0) → Result X F → Type 0
OfOk P (Ok x) = P x
OfOk P (Err f) = Unit {0}

-- a digit stands for a number below 16
range_small : (low high least d : ℕ) (others : Option ℕ) → (high - low) + least < 16 → OfSome (λ v. v < 16) others → OfSome (λ v. v < 16) (from_range low high least d others)
range_small low high least d others fits rest = above (nat_le low d) refl
  where
    below : (b : Bool) → nat_le d high ≡ b → OfSome (λ v. v < 16) (cond b (Some ((d - low) + least)) others)
    below true e = let l = leb-true d high e in omega arith
    below false e = rest

    above : (b : Bool) → nat_le low d ≡ b → OfSome (λ v. v < 16) (cond b (cond (nat_le d high) (Some ((d - low) + least)) others) others)
    above true e = below (nat_le d high) refl
    above false e = rest

digit_small : (d : ℕ) → OfSome (λ v. v < 16) (digit_of d)
digit_small d =
    range_small 48 57 0 d _ (omega arith) (range_small 97 102 10 d _ (omega arith) (range_small 65 70 10 d None (omega arith) tt))

-- two of them stand for a byte
pair_small : (high low : ℕ) → OfSome (λ v. v < 256) (pair_value high low)
pair_small high low = of_high (digit_of high) (digit_small high) (digit_of low) (digit_small low)
  where
    of_low : (h : ℕ) → h < 16 → (l : Option ℕ) → OfSome (λ v. v < 16) l → OfSome (λ v. v < 256) (option_map (λ n. 16 * h + n) l)
    of_low h less None small = tt
    of_low h less (Some l) small = omega arith

    of_high : (h : Option ℕ) → OfSome (λ v. v < 16) h → (l : Option ℕ) → OfSome (λ v. v < 16) l → OfSome (λ v. v < 256) (option_and_then (λ m. option_map (λ n. 16 * m + n) l) h)
    of_high None small l others = tt
    of_high (Some h) small l others = of_low h small l others

-- the bytes of a word are bytes
abbrev AllBytes : Result (List ℕ) LineFault → Type 0
AllBytes r = OfOk (λ bs. all_bytes bs ≡ true) r

before_bytes : (b : Option ℕ) → OfSome (λ v. v < 256) b → (r : Result (List ℕ) LineFault) → AllBytes r → AllBytes (before b r)
before_bytes None small r rest = tt
before_bytes (Some b) small (Err f) rest = tt
before_bytes (Some b) small (Ok bs) rest = and_from _ _ (lt-ltb b 256 small) rest

pairs_bytes : (ds : List ℕ) → AllBytes (pairs_value ds)
pairs_bytes [] = refl
pairs_bytes (d ∷ []) = tt
pairs_bytes (high ∷ low ∷ ds) = before_bytes (pair_value high low) (pair_small high low) (pairs_value ds) (pairs_bytes ds)

word_bytes : (w : List ℕ) → AllBytes (bytes_value w)
word_bytes w = dashed (bytes_eq w (codes "-"))
  where
    dashed : (b : Bool) → AllBytes (cond b (Ok []) (pairs_value w))
    dashed true = refl
    dashed false = pairs_bytes w

-- what words ask for is of bytes
abbrev AskedBytes : Taken Asked → Type 0
AskedBytes (taken a rest) = AreOfBytes (calls_of (Some a))
AskedBytes (stopped f) = Unit {0}

-- a word that may stand for anything
any_word : {A : Type 0} (value : List ℕ → Result A LineFault) (ws : List (List ℕ)) (more : A → List (List ℕ) → Taken Asked) → ((x : A) (rest : List (List ℕ)) → AskedBytes (more x rest)) → AskedBytes (next (word value ws) more)
any_word {A = A} value [] more h = tt
any_word {A = A} value (w ∷ rest) more h = of_value (value w)
  where
    of_value : (r : Result A LineFault) → AskedBytes (next (settled r rest) more)
    of_value (Ok x) = h x rest
    of_value (Err f) = tt

-- a word for bytes
bytes_word : (ws : List (List ℕ)) (more : List ℕ → List (List ℕ) → Taken Asked) → ((bs : List ℕ) (rest : List (List ℕ)) → all_bytes bs ≡ true → AskedBytes (more bs rest)) → AskedBytes (next (word bytes_value ws) more)
bytes_word [] more h = tt
bytes_word (w ∷ rest) more h = of_value (bytes_value w) (word_bytes w)
  where
    of_value : (r : Result (List ℕ) LineFault) → AllBytes r → AskedBytes (next (settled r rest) more)
    of_value (Ok bs) small = h bs rest small
    of_value (Err f) small = tt

-- one step whose bytes are bytes
one_step : (b : Bool) → b ≡ true → (b && true) ≡ true
one_step b e = and_from b true e refl

request_bytes : (v : Verb) (ws : List (List ℕ)) → AskedBytes (request_from v ws)
request_bytes Verb'.Name ws = any_word byte_value ws _ (λ kind rest. bytes_word rest _ (λ label rest small. refl))
request_bytes Verb'.File ws = any_word number_value ws _ (λ kind rest. bytes_word rest _ (λ body rest small. one_step _ small))
request_bytes Verb'.Load ws = bytes_word ws _ (λ bytes rest small. one_step _ small)
request_bytes Verb'.Aside ws = any_word number_value ws _ (λ n rest. refl)
request_bytes Verb'.Restore ws = any_word number_value ws _ (λ n rest. refl)
request_bytes Verb'.Seed ws = any_word number_value ws _ (λ n rest. refl)
request_bytes Verb'.Unseed ws = any_word number_value ws _ (λ n rest. refl)
request_bytes Verb'.Freeze ws = refl
request_bytes Verb'.Reopen ws = refl
request_bytes Verb'.Mark ws =
    any_word pile_value ws _ (λ pile rest. any_word number_value rest _ (λ axioms rest. any_word number_value rest _ (λ names rest. refl)))
request_bytes Verb'.Write ws =
    any_word pile_value ws _ (λ pile rest. any_word number_value rest _ (λ axioms rest. any_word number_value rest _ (λ names rest. any_word number_value rest _ (λ part rest. refl))))

-- so is what a line asks for
abbrev LineBytes : Result (Option Asked) LineFault → Type 0
LineBytes r = OfOk (λ a. AreOfBytes (calls_of a)) r

whole_bytes : (t : Taken Asked) → AskedBytes t → LineBytes (whole t)
whole_bytes (taken a []) h = h
whole_bytes (taken a (w ∷ rest)) h = tt
whole_bytes (stopped f) h = tt

begun_bytes : (v : Option Verb) (ws : List (List ℕ)) → LineBytes (begun v ws)
begun_bytes None ws = tt
begun_bytes (Some v) ws = whole_bytes (request_from v ws) (request_bytes v ws)

words_bytes : (ws : List (List ℕ)) → LineBytes (request_of_words ws)
words_bytes [] = refl
words_bytes (w ∷ ws) = begun_bytes (verb_named w) ws

pub line_bytes : (l : List ℕ) → OfOk (λ a. AreOfBytes (calls_of a)) (line_request l)
line_bytes l = commented (is_comment l)
  where
    commented : (b : Bool) → LineBytes (cond b (Ok None) (request_of_words (words l)))
    commented true = refl
    commented false = words_bytes (words l)

-- calls behind calls
behind_bytes : (cs ds : List Step) → AreOfBytes cs → AreOfBytes ds → AreOfBytes (cs ++ ds)
behind_bytes [] ds first then = then
behind_bytes (c ∷ cs) ds first then =
    let parts = and_parts (is_of_bytes c) _ first in
    and_from _ _ parts.0 (behind_bytes cs ds parts.1 then)

-- the calls of a line behind those before it
pub with_line : (cs : List Step) (l : List ℕ) (r : Option Asked) → AreOfBytes cs → line_request l ≡ Ok r → AreOfBytes (cs ++ calls_of r)
with_line cs l r first asks = behind_bytes cs (calls_of r) first (subst (OfOk (λ a. AreOfBytes (calls_of a))) asks (line_bytes l))
