-- Places take what is within their limits.
use Rattle.std.proofs.Common.{◌≡◌, ◌≢◌, ℕ, ◌^◌, ◌+◌, ◌-◌, ◌<◌, ◌≤◌, List, [], ◌∷◌, length, true, false, ◌||◌, Option, Some, None, Result, Ok, codes, nat_lt, nat_le, inl, inr, arith, refl, sym, ap}
use Rattle.std.specs.Prelude.{if◌then◌else◌, option_and_then}
use Rattle.std.specs.List.{All}
use Rattle.std.proofs.lemmas.Bool.{cases_Bool}
use Rattle.std.specs.Cmp.Lexicographic.{same_text}
use Rattle.std.proofs.lemmas.List.Elements.{All-head, All-tail}
use Rattle.serde_json.specs.Data.{Data, Items}
use Rattle.serde_json.specs.Find.{get, as_number, as_u64, as_array, as_str}
use Rattle.kit_rules.specs.declared.table.Wish.TheVariants as wish
use Rattle.kit_rules.specs.declared.table.Operand.TheVariants as operand
use Rattle.kit_rules.specs.declared.table.Action.TheVariants as action
use Rattle.kit_rules.specs.Names.{IsName, is_name}
use Rattle.kit_rules.proofs.NameForms.{names_are_tested_law}
use Rattle.kit_walk.specs.declared.fault.FaultKind.TheVariants as kind
use Rattle.kit_walk.specs.declared.fault.Fault.{Fault}
use Rattle.kit_walk.specs.Paths.{key_path}
use Rattle.kit_walk.specs.Reading.{◌>>=◌, fault_at, or_fault}
use Rattle.kit_walk.specs.Places.{member, number, text, list, list_of, optional_list, data_of, is_same}
use Rattle.kit_file.specs.Names.{itself, var_name, group_name, update_name, name, is_given}
use Rattle.kit_file.specs.Actions.{delay_of, tar_of, ner_of}
use Rattle.kit_file.specs.Laws.{number_under}
use Rattle.kit_file.specs.Ranges.{TakesNewNames, NumbersAreTaken, ListsAreTaken, NamesAreTaken}

-- a step that gave a value goes on with it
goes_on : {A B : Type 0} (r : Result A Fault) (x : A) (next : A → Result B Fault) → r ≡ Ok x → (r >>= next) ≡ next x
goes_on r x next e = ap (λ t. t >>= next) e

-- what is not below and not above is taken
within_range : {A : Type 0} (n low high : ℕ) (path : List ℕ) (x : A) → low ≤ n → n ≤ high → (if nat_lt n low || nat_lt high n then fault_at kind.OutOfRange path else Ok x) ≡ Ok x
within_range n low high path x lo hi =
    let a : nat_lt n low ≡ false = search arith in
    let b : nat_lt high n ≡ false = search arith in
    rw (a, b) refl

-- a number
number_taken : (key : List ℕ) (low high : ℕ) (d : Data) (n : ℕ) → number_under key d ≡ Some n → low ≤ n → n ≤ high → number key low high d ≡ Ok n
unfolding number member
number_taken key low high d n said lo hi = from (get key d) said
  where
    found : (o : Option ℕ) → o ≡ Some n → (or_fault kind.WrongKind (key_path key) o >>= λ m. if nat_lt m low || nat_lt high m then fault_at kind.OutOfRange (key_path key) else Ok m) ≡ Ok n
    found o e = rw e (within_range n low high (key_path key) n lo hi)

    from : (o : Option Data) → option_and_then as_u64 (option_and_then as_number o) ≡ Some n
        → (or_fault kind.Missing (key_path key) o >>= λ v. or_fault kind.WrongKind (key_path key) (option_and_then as_u64 (as_number v)) >>= λ m. if nat_lt m low || nat_lt high m then fault_at kind.OutOfRange (key_path key) else Ok m) ≡ Ok n
    from None e = absurd (cc)
    from (Some v) e = found (option_and_then as_u64 (as_number v)) e

-- a list that is the value at a key
items_taken : (key : List ℕ) (low high : ℕ) (v : Data) (ds : Items) → as_array v ≡ Some ds → low ≤ length (data_of ds) → length (data_of ds) ≤ high → list_of key low high v ≡ Ok (data_of ds)
unfolding list_of
items_taken key low high v ds is lo hi = rw is (within_range (length (data_of ds)) low high (key_path key) (data_of ds) lo hi)

list_taken : (key : List ℕ) (low high : ℕ) (d : Data) (ds : Items) → option_and_then as_array (get key d) ≡ Some ds → low ≤ length (data_of ds) → length (data_of ds) ≤ high → list key low high d ≡ Ok (data_of ds)
unfolding list member
list_taken key low high d ds is lo hi = from (get key d) is
  where
    from : (o : Option Data) → option_and_then as_array o ≡ Some ds → (or_fault kind.Missing (key_path key) o >>= λ v. list_of key low high v) ≡ Ok (data_of ds)
    from None e = absurd (cc)
    from (Some v) e = items_taken key low high v ds e lo hi

-- one that may be absent
optional_taken : (key : List ℕ) (high : ℕ) (d : Data) (ds : Items) → option_and_then as_array (get key d) ≡ Some ds → length (data_of ds) ≤ high → optional_list key high (get key d) ≡ Ok (data_of ds)
optional_taken key high d ds is hi = from (get key d) is
  where
    from : (o : Option Data) → option_and_then as_array o ≡ Some ds → optional_list key high o ≡ Ok (data_of ds)
    from None e = absurd (cc)
    from (Some v) e = items_taken key 0 high v ds e (omega arith) hi

none_taken : (key : List ℕ) (high : ℕ) (d : Data) → get key d ≡ None → optional_list key high (get key d) ≡ Ok []
none_taken key high d is = ap (optional_list key high) is

-- a delay
delay_taken : (least : ℕ) (d : Data) (n : ℕ) → number (codes "delay") 0 100000 d ≡ Ok n → least ≤ n → delay_of least d ≡ Ok n
unfolding delay_of
delay_taken least d n is le = let t : nat_le least n ≡ true = search arith in rw (is, t) refl

-- steps
tar_taken : (d : Data) (n : ℕ) → number (codes "tar") 1 100000 d ≡ Ok n → tar_of d ≡ Ok (action.Tar n)
unfolding tar_of
tar_taken d n is = goes_on (number (codes "tar") 1 100000 d) n (λ k. Ok (action.Tar k)) is

ner_taken : (d : Data) (n : ℕ) → number (codes "ner") 1 100000 d ≡ Ok n → ner_of d ≡ Ok (action.Ner n)
unfolding ner_of
ner_taken d n is = goes_on (number (codes "ner") 1 100000 d) n (λ k. Ok (action.Ner k)) is

-- the start of a range
before_last : (n : ℕ) → n + 1 < 2 ^ 32 → n ≤ 2 ^ 32 - 2
before_last n lt = omega arith

-- a word is no more than the greatest one
under : (n : ℕ) → n < 2 ^ 32 → n ≤ 2 ^ 32 - 1
under n lt = omega arith

pub numbers_are_taken : NumbersAreTaken
numbers_are_taken = record {
  version = λ d n said h. number_taken (codes "version") 1 3 d n said h.0 h.1;
  end = λ d n said h. number_taken (codes "end") 1 100000 d n said h.0 h.1;
  buffers = λ d n said h. number_taken (codes "buffers") 1 1024 d n said h.0 h.1;
  from = λ d n said h. number_taken (codes "from") 0 (2 ^ 32 - 2) d n said (omega arith) (before_last n h);
  to = λ from d n said h. number_taken (codes "to") (from + 1) (2 ^ 32 - 1) d n said (omega (arith, h.0)) (under n h.1);
  lookahead = λ d n said h. goes_on (number (codes "lookahead") 1 100000 d) n (λ k. Ok (Some k)) (number_taken (codes "lookahead") 1 100000 d n said h.0 h.1);
  tar_advance = λ ner d n said h. goes_on (number (codes "tar") 1 100000 d) n (λ k. Ok (wish.Tar k)) (number_taken (codes "tar") 1 100000 d n said h.0 h.1);
  ner_advance = λ d n said h. goes_on (number (codes "ner") 1 100000 d) n (λ k. Ok (wish.Ner k)) (number_taken (codes "ner") 1 100000 d n said h.0 h.1);
  value = λ d n said h. number_taken (codes "value") 0 (2 ^ 32 - 1) d n said (omega arith) (under n h);
  operand = λ key vars d n said h. goes_on (number key 0 (2 ^ 32 - 1) d) n (λ k. Ok (operand.Num k)) (number_taken key 0 (2 ^ 32 - 1) d n said (omega arith) (under n h));
  delay = λ least d n said h. delay_taken least d n (number_taken (codes "delay") 0 100000 d n said (omega arith) h.1) h.0;
  tar = λ d n said h. tar_taken d n (number_taken (codes "tar") 1 100000 d n said h.0 h.1);
  ner = λ d n said h. ner_taken d n (number_taken (codes "ner") 1 100000 d n said h.0 h.1);
}

pub lists_are_taken : ListsAreTaken
lists_are_taken = record {
  federates = λ d ds is h. list_taken (codes "federates") 1 16 d ds is h.0 h.1;
  groups = λ d ds is h. optional_taken (codes "groups") 32 d ds is h;
  no_groups = λ d is. none_taken (codes "groups") 32 d is;
  members = λ d ds is h. list_taken (codes "members") 0 16 d ds is (omega arith) h;
  subscribers = λ d ds is h. list_taken (codes "subscribers") 0 256 d ds is (omega arith) h;
  regions = λ d ds is h. optional_taken (codes "regions") 32 d ds is h;
  no_regions = λ d is. none_taken (codes "regions") 32 d is;
  vars = λ d ds is h. optional_taken (codes "vars") 8 d ds is h;
  no_vars = λ d is. none_taken (codes "vars") 8 d is;
  rules = λ d ds is h. optional_taken (codes "rules") 64 d ds is h;
  no_rules = λ d is. none_taken (codes "rules") 64 d is;
  conds = λ d ds is h. optional_taken (codes "if") 8 d ds is h;
  no_conds = λ d is. none_taken (codes "if") 8 d is;
  actions = λ d ds is h. list_taken (codes "do") 0 16 d ds is (omega arith) h;
}

-- a text of the form of a name
name_taken : (key : List ℕ) (d : Data) (s : List ℕ) → option_and_then as_str (get key d) ≡ Some s → IsName s → name key d ≡ Ok s
unfolding name text member
name_taken key d s is form = from (get key d) is
  where
    passes : is_name s ≡ true
    passes = (names_are_tested_law s).1 form

    found : (o : Option (List ℕ)) → o ≡ Some s → (or_fault kind.WrongKind (key_path key) o >>= λ t. if is_name t then Ok t else fault_at kind.OutOfRange (key_path key)) ≡ Ok s
    found o e = rw (e, passes) refl

    from : (o : Option Data) → option_and_then as_str o ≡ Some s
        → ((or_fault kind.Missing (key_path key) o >>= λ v. or_fault kind.WrongKind (key_path key) (as_str v)) >>= λ t. if is_name t then Ok t else fault_at kind.OutOfRange (key_path key)) ≡ Ok s
    from None e = absurd (cc)
    from (Some v) e = found (as_str v) e

-- names that differ are not the same
differs : (a b : List ℕ) → a ≢ b → is_same a b ≡ false
differs a b ne = elim (cases_Bool (is_same a b)) [ inl t ↦ absurd (ne (same_text a b (sym t))) | inr f ↦ f ]

none_given : {X : Type 0} (name_of : X → List ℕ) (done : List X) (s : List ℕ) → All (λ x. name_of x ≢ s) done → is_given name_of done s ≡ false
none_given name_of [] s h = refl
none_given name_of (x ∷ xs) s h =
    rw (differs (name_of x) s (All-head (λ y. name_of y ≢ s) x xs h)) (none_given name_of xs s (All-tail (λ y. name_of y ≢ s) x xs h))

new_taken : {X : Type 0} (name_of : X → List ℕ) → TakesNewNames name_of
new_taken name_of done key s h = rw (none_given name_of done s h) refl

pub names_are_taken : NamesAreTaken
names_are_taken = record { form = name_taken; federates = new_taken itself; groups = new_taken group_name; regions = new_taken update_name; vars = new_taken var_name }
