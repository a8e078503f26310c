-- When a journal with one more entry is lawful.
use Rattle.std.proofs.Common.{◌≡◌, ℕ, ◌<◌, List, [], ◌∷◌, ◌++◌, fold, Option, Some, None, IfSome, unwrap_or, arith, ap, ◌∙◌}
use Rattle.std.specs.List.{All, AllPairs}
use Rattle.std.specs.Option.{option_or}
use Rattle.std.proofs.Math.Bridge.{le_prop}
use Rattle.std.proofs.lemmas.List.Elements.{All-nil, All-cons, All-head, All-tail}
use Rattle.std.proofs.lemmas.List.Quantifiers.{all_pairs_push}
use Rattle.std.proofs.lemmas.List.Sums.{fold_push}
use Rattle.kit_model.specs.declared.journal.JournalEntry.{JournalEntry}
use Rattle.kit_model.specs.declared.journal.JournalEntry.TheVariants.{Received, Delivered, Granted}
use Rattle.kit_model.specs.Journals.{MayFollow, IsLawful, time_granted, last_grant, now_of, MayFollowGrant}
use Rattle.kit_model.specs.Laws.{EmptyIsLawful, PushesAreLawful, FrontsAreLawful, ReceiptsAreLawful, DeliveriesAreLawful, GrantsAreLawful, OthersKeepTheTime}
use Rattle.kit_model.proofs.Pairs.{pairs_head, pairs_tail, pairs_front, pairs_last}

-- the last of two grants
abbrev later : Option ℕ → JournalEntry → Option ℕ
later last e = option_or (time_granted e) last

-- the last grant after one more entry
pub last_grant-push : (entries : List JournalEntry) (e : JournalEntry) → last_grant (entries ++ e ∷ []) ≡ option_or (time_granted e) (last_grant entries)
last_grant-push entries e = fold_push later None entries e

-- what may follow a grant may follow each earlier one
grant_trans : (s t : ℕ) (e : JournalEntry) → s < t → MayFollow (Granted t) e → MayFollow (Granted s) e
grant_trans s t (Received m) lt h = omega arith
grant_trans s t (Delivered granted m) lt h = tt
grant_trans s t (Granted u) lt h = omega arith

-- what may follow the last grant may follow each entry of a lawful journal
follow_all : (last : Option ℕ) (entries : List JournalEntry) (e : JournalEntry)
    → IfSome last (λ t. All (MayFollow (Granted t)) entries) → AllPairs MayFollow entries → MayFollowGrant (fold later last entries) e
    → MayFollowGrant last e × All (λ p. MayFollow p e) entries
follow_all last [] e after lawful h = (h, All-nil (λ p. MayFollow p e))
follow_all None (Received m ∷ es) e after lawful h =
    (tt, All-cons (λ p. MayFollow p e) (Received m) es tt (follow_all None es e tt (pairs_tail MayFollow (Received m) es lawful) h).1)
follow_all None (Delivered g m ∷ es) e after lawful h =
    (tt, All-cons (λ p. MayFollow p e) (Delivered g m) es tt (follow_all None es e tt (pairs_tail MayFollow (Delivered g m) es lawful) h).1)
follow_all None (Granted u ∷ es) e after lawful h =
    let rest = follow_all (Some u) es e (pairs_head MayFollow (Granted u) es lawful) (pairs_tail MayFollow (Granted u) es lawful) h in
    (tt, All-cons (λ p. MayFollow p e) (Granted u) es rest.0 rest.1)
follow_all (Some t) (Received m ∷ es) e after lawful h =
    let rest = follow_all (Some t) es e (All-tail (MayFollow (Granted t)) (Received m) es after) (pairs_tail MayFollow (Received m) es lawful) h in
    (rest.0, All-cons (λ p. MayFollow p e) (Received m) es tt rest.1)
follow_all (Some t) (Delivered g m ∷ es) e after lawful h =
    let rest = follow_all (Some t) es e (All-tail (MayFollow (Granted t)) (Delivered g m) es after) (pairs_tail MayFollow (Delivered g m) es lawful) h in
    (rest.0, All-cons (λ p. MayFollow p e) (Delivered g m) es tt rest.1)
follow_all (Some t) (Granted u ∷ es) e after lawful h =
    let rest = follow_all (Some u) es e (pairs_head MayFollow (Granted u) es lawful) (pairs_tail MayFollow (Granted u) es lawful) h in
    (grant_trans t u e (All-head (MayFollow (Granted t)) (Granted u) es after) rest.0, All-cons (λ p. MayFollow p e) (Granted u) es rest.0 rest.1)

-- what may follow each entry may follow the last grant
follows_last : (last : Option ℕ) (entries : List JournalEntry) (e : JournalEntry)
    → MayFollowGrant last e → All (λ p. MayFollow p e) entries → MayFollowGrant (fold later last entries) e
follows_last last [] e h all = h
follows_last last (Received m ∷ es) e h all = follows_last last es e h (All-tail (λ p. MayFollow p e) (Received m) es all)
follows_last last (Delivered g m ∷ es) e h all = follows_last last es e h (All-tail (λ p. MayFollow p e) (Delivered g m) es all)
follows_last last (Granted u ∷ es) e h all =
    follows_last (Some u) es e (All-head (λ p. MayFollow p e) (Granted u) es all) (All-tail (λ p. MayFollow p e) (Granted u) es all)

pub empty_is_lawful : EmptyIsLawful
empty_is_lawful i j d lt le = absurd (omega arith)

pub fronts_are_lawful : FrontsAreLawful
fronts_are_lawful entries more h = pairs_front MayFollow entries more h

pub push_lawful : (entries : List JournalEntry) (e : JournalEntry) → IsLawful entries → MayFollowGrant (last_grant entries) e → IsLawful (entries ++ e ∷ [])
push_lawful entries e lawful h = all_pairs_push MayFollow entries e lawful (follow_all None entries e tt lawful h).1

pub lawful_push : (entries : List JournalEntry) (e : JournalEntry) → IsLawful (entries ++ e ∷ []) → IsLawful entries × MayFollowGrant (last_grant entries) e
lawful_push entries e h = (pairs_front MayFollow entries (e ∷ []) h, follows_last None entries e tt (pairs_last MayFollow entries e h))

pub pushes_are_lawful : PushesAreLawful
pushes_are_lawful entries e = (lawful_push entries e, λ h. push_lawful entries e h.0 h.1)

-- what is after the logical time is after the last grant
after_last : (last : Option ℕ) (t : ℕ) → unwrap_or last 0 < t → IfSome last (λ g. g < t)
after_last None t h = tt
after_last (Some g) t h = h

pub receipts_are_lawful : ReceiptsAreLawful
receipts_are_lawful entries m lawful h = push_lawful entries (Received m) lawful (after_last (last_grant entries) m.time h)

pub deliveries_are_lawful : DeliveriesAreLawful
deliveries_are_lawful entries granted m lawful = push_lawful entries (Delivered granted m) lawful (always (last_grant entries))
  where
    always : (last : Option ℕ) → MayFollowGrant last (Delivered granted m)
    always None = tt
    always (Some g) = tt

-- the logical time after a grant
pub now_of-granted : (entries : List JournalEntry) (t : ℕ) → now_of (entries ++ Granted t ∷ []) ≡ t
now_of-granted entries t = ap (λ last. unwrap_or last 0) (last_grant-push entries (Granted t))

pub others_keep_the_time : OthersKeepTheTime
others_keep_the_time entries e none = ap (λ last. unwrap_or last 0) (last_grant-push entries e ∙ ap (λ o. option_or o (last_grant entries)) none)

pub grants_are_lawful : GrantsAreLawful
grants_are_lawful entries t lawful h = (push_lawful entries (Granted t) lawful (after_last (last_grant entries) t h), now_of-granted entries t)

-- there is one proof at most that an entry may follow another
MayFollow-prop : (a b : JournalEntry) → IsProp (MayFollow a b)
MayFollow-prop (Received m) b = hlevel le_prop
MayFollow-prop (Delivered g m) b = hlevel le_prop
MayFollow-prop (Granted t) (Received m) = hlevel le_prop
MayFollow-prop (Granted t) (Delivered g m) = hlevel le_prop
MayFollow-prop (Granted t) (Granted u) = hlevel le_prop

-- and that a journal is lawful
pub IsLawful-prop : (entries : List JournalEntry) → IsProp (IsLawful entries)
IsLawful-prop entries = hlevel MayFollow-prop
