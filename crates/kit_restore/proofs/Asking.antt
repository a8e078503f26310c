-- The wish and the request of a federate that were read.
use Rattle.std.proofs.Common.{◌≡◌, ℕ, ◌+◌, ◌<◌, ◌≤◌, Bool, true, false, Option, Some, None, Ok, nat_lt, codes, refl, subst, arith}
use Rattle.std.proofs.lemmas.Bool.{ltb-true, ltb-false}
use Rattle.serde_json.specs.Data.{Data}
use Rattle.kit_rules.specs.declared.table.Wish.{Wish}
use Rattle.kit_rules.specs.declared.table.Wish.TheVariants as wish
use Rattle.kit_rules.specs.declared.table.Request.{Request}
use Rattle.kit_rules.specs.declared.table.Request.TheVariants as request
use Rattle.kit_rules.specs.Limits.{most_time}
use Rattle.kit_rules.specs.Federation.{IsWish}
use Rattle.kit_walk.specs.Paths.{key_path}
use Rattle.kit_walk.specs.Reading.{within}
use Rattle.kit_walk.specs.Places.{object, has, member, number}
use Rattle.kit_file.specs.Federates as federates
use Rattle.kit_file.specs.Federates.{wish_of}
use Rattle.kit_cut.specs.ValidCuts.{IsAhead, IsAsking}
use Rattle.kit_restore.specs.CutWalk.{asked, request_in, request_of, request_if, standing_wish_of}
use Rattle.kit_restore.proofs.Answered.{bind_ok, within_ok, gave, gave_same, number_ok}

-- what an object with such keys wishes
wished : (tar ner : Bool) (a : Data) (w : Wish) → federates.request_of tar ner a ≡ Ok w → IsWish w
wished true ner a w e =
    let n = bind_ok (number (codes "tar") 1 most_time a) (λ n. gave (wish.Tar n)) w e in
    subst IsWish (gave_same (wish.Tar n.0) w n.2) (number_ok (codes "tar") 1 most_time a n.0 n.1)
wished false true a w e =
    let n = bind_ok (number (codes "ner") 1 most_time a) (λ n. gave (wish.Ner n)) w e in
    subst IsWish (gave_same (wish.Ner n.0) w n.2) (number_ok (codes "ner") 1 most_time a n.0 n.1)
wished false false a w e = absurd (cc)

-- a wish that was read
pub wish_is : (d : Data) (w : Wish) → standing_wish_of d ≡ Ok w → IsWish w
unfolding standing_wish_of wish_of
wish_is d w e =
    let a = bind_ok (member (codes "wish") d) (λ a. within (key_path (codes "wish")) (wish_of a)) w e in
    let inside = within_ok (key_path (codes "wish")) (wish_of a.0) w a.2 in
    let u = bind_ok (object a.0) (λ u. federates.request_of (has (codes "tar") a.0) (has (codes "ner") a.0) a.0) w inside in
    wished (has (codes "tar") a.0) (has (codes "ner") a.0) a.0 w u.2

-- what an object with such keys asks for
asked_ahead : (at end : ℕ) (tar ner : Bool) (d : Data) (r : Request) → asked at end tar ner d ≡ Ok r → IsAhead at end r
asked_ahead at end true ner d r e =
    let n = bind_ok (number (codes "tar") (at + 1) end d) (λ n. gave (request.Tar n)) r e in
    subst (IsAhead at end) (gave_same (request.Tar n.0) r n.2) (number_ok (codes "tar") (at + 1) end d n.0 n.1)
asked_ahead at end false true d r e =
    let n = bind_ok (number (codes "ner") (at + 1) end d) (λ n. gave (request.Ner n)) r e in
    subst (IsAhead at end) (gave_same (request.Ner n.0) r n.2) (number_ok (codes "ner") (at + 1) end d n.0 n.1)
asked_ahead at end false false d r e = absurd (cc)

-- the key request
request_ahead : (at end : ℕ) (d : Data) (r : Request) → request_of at end d ≡ Ok r → IsAhead at end r
unfolding request_of request_in
request_ahead at end d r e =
    let v = bind_ok (member (codes "request") d) (λ v. within (key_path (codes "request")) (request_in at end v)) r e in
    let inside = within_ok (key_path (codes "request")) (request_in at end v.0) r v.2 in
    let u = bind_ok (object v.0) (λ u. asked at end (has (codes "tar") v.0) (has (codes "ner") v.0) v.0) r inside in
    asked_ahead at end (has (codes "tar") v.0) (has (codes "ner") v.0) v.0 r u.2

-- a request where the test of the time says so
asking_if : (below : Bool) (at end now : ℕ) (d : Data) (o : Option Request) → nat_lt now end ≡ below → request_if below at end d ≡ Ok o → IsAsking at end now o
asking_if true at end now d o is e =
    let r = bind_ok (request_of at end d) (λ r. gave (Some r)) o e in
    let lower : now < end = ltb-true now end is in
    subst (IsAsking at end now) (gave_same (Some r.0) o r.2) (record { below = λ lt. request_ahead at end d r.0 r.1; over = λ le. absurd (omega (arith, lower, le)) })
asking_if false at end now d o is e =
    let reached : end ≤ now = ltb-false now end is in
    let none : IsAsking at end now None = record { below = λ lt. absurd (omega (arith, reached, lt)); over = λ le. refl } in
    subst (IsAsking at end now) (gave_same None o e) none

-- a request that was read
pub asking_is : (at end now : ℕ) (d : Data) (o : Option Request) → request_if (nat_lt now end) at end d ≡ Ok o → IsAsking at end now o
asking_is at end now d o e = asking_if (nat_lt now end) at end now d o refl e
