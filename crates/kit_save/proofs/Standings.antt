-- What a cut keeps of a federate comes back.
use Rattle.std.proofs.Common.{◌≡◌, ℕ, zero, suc, ◌+◌, ◌-◌, ◌^◌, ◌<◌, ◌≤◌, List, [], ◌∷◌, ◌++◌, length, take, replicate, Option, true, Some, None, Ok, nat_lt, codes, refl, sym, ap, arith, ◌∙◌, inl, inr}
use Rattle.std.specs.Prelude.{option_map, IsSomeAnd, slice_index}
use Rattle.std.specs.List.{All}
use Rattle.std.proofs.lemmas.Bool.{cases_lt, lt-ltb, le-ltb}
use Rattle.std.proofs.lemmas.List.{length-take-le}
use Rattle.std.proofs.lemmas.List.Elements.{All-take, All-weaker}
use Rattle.serde_json.specs.Data.{Data}
use Rattle.serde_json.specs.Find.{get}
use Rattle.kit_rules.specs.declared.table.Wish.{Wish}
use Rattle.kit_rules.specs.declared.table.Request.{Request}
use Rattle.kit_rules.specs.declared.table.Request.TheVariants as request
use Rattle.kit_rules.specs.declared.table.Federate.{Federate}
use Rattle.kit_rules.specs.Parts.{Parts, federate_at}
use Rattle.kit_rules.specs.Federation.{IsWish}
use Rattle.kit_walk.specs.Paths.{key_path}
use Rattle.kit_walk.specs.Reading.{within}
use Rattle.kit_walk.specs.Places.{object, member}
use Rattle.kit_file.specs.Federates.{wish_of}
use Rattle.kit_cut.specs.declared.cut.Standing.{Standing}
use Rattle.kit_cut.specs.ValidCuts.{IsAhead, IsAsking, IsStanding}
use Rattle.kit_save.specs.Values.{count, list_value, wish_value}
use Rattle.kit_save.specs.CutValues.{numbers_value, own_value, message_value, request_value, standing_value}
use Rattle.kit_save.specs.CutWidths.{HasStandingWords}
use Rattle.kit_restore.specs.CutWalk.{request_in, request_of, request_if, standing_wish_of, with_unused, standing_of}
use Rattle.kit_save.proofs.Lists.{both, member_read}
use Rattle.kit_save.proofs.Rows.{number_taken, IsWithin, numbers_taken}
use Rattle.kit_save.proofs.Federates.{wish_taken}
use Rattle.kit_save.proofs.Own.{own_list_taken}
use Rattle.kit_save.proofs.Pending.{messages_taken}

-- a request
request_said : (at end : ℕ) (r : Request) → IsAhead at end r → request_in at end (request_value r) ≡ Ok r
unfolding request_in object
request_said at end (request.Tar time) is = rw (number_taken (codes "tar") (at + 1) end (request_value (request.Tar time)) time refl is.0 is.1) refl
request_said at end (request.Ner time) is = rw (number_taken (codes "ner") (at + 1) end (request_value (request.Ner time)) time refl is.0 is.1) refl

request_taken : (at end : ℕ) (d : Data) (r : Request) → get (codes "request") d ≡ Some (request_value r) → IsAhead at end r → request_of at end d ≡ Ok r
unfolding request_of
request_taken at end d r e is =
    both (member (codes "request") d) (request_value r) (λ v. within (key_path (codes "request")) (request_in at end v)) r (member_read (codes "request") d (request_value r) e) (ap (within (key_path (codes "request"))) (request_said at end r is))

-- the request of a federate below the end
below_taken : (at end : ℕ) (d : Data) (r : Option Request) → get (codes "request") d ≡ option_map request_value r → IsSomeAnd r (IsAhead at end) → request_if true at end d ≡ Ok r
below_taken at end d None e is = absurd is
below_taken at end d (Some r) e is = rw (request_taken at end d r e is) refl

-- and of one at the end
asking_taken : (at end now : ℕ) (d : Data) (r : Option Request) → get (codes "request") d ≡ option_map request_value r → IsAsking at end now r → request_if (nat_lt now end) at end d ≡ Ok r
asking_taken at end now d r e is = elim (cases_lt now end) [
  | inl below ↦ ap (λ b. request_if b at end d) (lt-ltb now end below) ∙ below_taken at end d r e (is.below below)
  | inr over ↦ ap (λ b. request_if b at end d) (le-ltb now end over) ∙ ap Ok (sym (is.over over))
]

-- the key wish
standing_wish_taken : (d : Data) (w : Wish) → get (codes "wish") d ≡ Some (wish_value w) → IsWish w → standing_wish_of d ≡ Ok w
unfolding standing_wish_of
standing_wish_taken d w e is =
    both (member (codes "wish") d) (wish_value w) (λ a. within (key_path (codes "wish")) (wish_of a)) w (member_read (codes "wish") d (wish_value w) e) (ap (within (key_path (codes "wish"))) (wish_taken w is))

-- values that are followed by 0 alone
filled : (ns : List ℕ) (n m : ℕ) → length ns ≡ n + m → ((k : ℕ) → n ≤ k → slice_index ns k ≡ 0) → take n ns ++ replicate m 0 ≡ ns
filled [] zero zero long unused = refl
filled [] zero (suc m) long unused = absurd (omega (arith, long))
filled [] (suc n) m long unused = absurd (omega (arith, long))
filled (x ∷ ns) zero zero long unused = absurd (omega (arith, long))
filled (x ∷ ns) zero (suc m) long unused =
    let first : x ≡ 0 = unused 0 (omega arith) in
    let rest : replicate m 0 ≡ ns = filled ns zero m (omega (arith, long)) (λ k le. unused (suc k) (omega arith)) in
    rw (first, rest) refl
filled (x ∷ ns) (suc n) m long unused = ap (λ ms. x ∷ ms) (filled ns n m (omega (arith, long)) (λ k le. unused (suc k) (omega (arith, le))))

-- the values of variables
unused_again : (ns : List ℕ) (n : ℕ) → length ns ≡ 8 → n ≤ 8 → ((k : ℕ) → n ≤ k → slice_index ns k ≡ 0) → with_unused (take n ns) ≡ ns
unused_again ns n long few unused =
    let kept : length (take n ns) ≡ n = length-take-le n ns (omega (arith, long)) in
    ap (λ m. take n ns ++ replicate (8 - m) 0) kept ∙ filled ns n (8 - n) (omega (arith, long)) unused

-- what is kept has under its keys
record SaysStanding (f : Federate) (s : Standing) (d : Data) : Type 0 where
  now : get (codes "now") d ≡ Some (count s.now)
  own : get (codes "own") d ≡ Some (list_value own_value s.own)
  pending : get (codes "pending") d ≡ Some (list_value message_value s.pending)
  request : get (codes "request") d ≡ option_map request_value s.request
  vars : get (codes "vars") d ≡ Some (numbers_value (take (length f.vars) s.vars))
  wish : get (codes "wish") d ≡ Some (wish_value s.wish)

said : (f : Federate) (s : Standing) → SaysStanding f s (standing_value f s)
said f s = with_request s.request
  where
    with_request : (r : Option Request) → SaysStanding f (record s { request = r }) (standing_value f (record s { request = r }))
    with_request None = record { now = refl; own = refl; pending = refl; request = refl; vars = refl; wish = refl }
    with_request (Some r) = record { now = refl; own = refl; pending = refl; request = refl; vars = refl; wish = refl }

-- what a cut keeps of federate i
pub standing_taken : (p : Parts) (at : ℕ) (nexts : List ℕ) (i : ℕ) (s : Standing) → length (federate_at p i).vars ≤ 8 → IsStanding p at nexts i s → HasStandingWords s
    → standing_of p at nexts i (standing_value (federate_at p i) s) ≡ Ok s
unfolding standing_of object
standing_taken p at nexts i s few is word =
    let f = federate_at p i in
    let d = standing_value f s in
    let says : SaysStanding f s d = said f s in
    let size : ℕ = length f.vars in
    let kept : length (take size s.vars) ≡ size = length-take-le size s.vars (omega (arith, word.places)) in
    let small : All (IsWithin 0 (2 ^ 32 - 1)) (take size s.vars) = All-take (IsWithin 0 (2 ^ 32 - 1)) size s.vars (All-weaker (λ n. n < 2 ^ 32) (IsWithin 0 (2 ^ 32 - 1)) (λ n lt. (omega arith, omega arith)) s.vars word.vars) in
    rw (
      number_taken (codes "now") 0 at d s.now says.now (omega arith) is.now,
      numbers_taken (codes "vars") size 0 (2 ^ 32 - 1) d (take size s.vars) says.vars kept small,
      standing_wish_taken d s.wish says.wish is.wish,
      asking_taken at p.end s.now d s.request says.request is.asks,
      own_list_taken p i s.now (slice_index nexts i) d s.own says.own is.own,
      messages_taken p at nexts i s.now s.request d s.pending says.pending is.pending word.pending,
      unused_again s.vars size word.places few is.unused,
    ) refl
