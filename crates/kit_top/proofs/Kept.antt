-- What both rules of a floor keep: no late message, and no buffer filled again too soon.
use Rattle.std.proofs.Common.{ℕ, ◌<◌, List, [], ◌∷◌, ◌++◌, length, map, sym, subst, ap, ◌∙◌, true≢false, arith}
use Rattle.std.specs.List.{All, AllPairs}
use Rattle.std.proofs.lemmas.List.Elements.{All-nil, All-cons, All-head, All-tail}
use Rattle.kit_model.specs.declared.journal.JournalEntry.{JournalEntry}
use Rattle.kit_model.specs.declared.journal.JournalEntry.TheVariants.{Received, Granted}
use Rattle.kit_model.specs.Journals.{IsLawful, MayFollow}
use Rattle.kit_model.proofs.Pairs.{pairs_head, pairs_tail}
use Rattle.kit_ground.specs.declared.place.SeatBuffers.{SeatBuffers}
use Rattle.kit_ground.specs.Layout.{memory_of}
use Rattle.kit_ground.specs.Memory.{Memory}
use Rattle.kit_ground.specs.Rules.{FloorHolds, stock_of}
use Rattle.kit_ground.specs.Sets.{no_buffers}
use Rattle.kit_ground.specs.Steps.{buffer_of}
use Rattle.kit_ground.proofs.Lists.{at_inside, at_map_or}
use Rattle.kit_ground.proofs.SetFacts.{due_not_free}
use Rattle.kit_lbts.specs.Views.{entries_of}
use Rattle.kit_lbts.proofs.Worlds.{journals_are_lawful}
use Rattle.kit_runner.specs.Runs.{Seat}
use Rattle.kit_top.specs.Headline.{FillsUnreadBuffers, NothingIsLate, RulesKeepIt}

-- what is so of all elements of two lists is so of those of the second
all_back : {X : Type 0} (P : X → Type 0) (xs ys : List X) → All P (xs ++ ys) → All P ys
all_back P [] ys h = h
all_back P (x ∷ xs) ys h = all_back P xs ys (All-tail P x (xs ++ ys) h)

-- where each stands so to each later one, each of the first list stands so to each of the second
pairs_across : {X : Type 0} (R : X → X → Type 0) (xs ys : List X) → AllPairs R (xs ++ ys) → All (λ (x : X). All (R x) ys) xs
pairs_across {X} R [] ys h = All-nil (λ (x : X). All (R x) ys)
pairs_across {X} R (x ∷ xs) ys h = All-cons (λ (x : X). All (R x) ys) x xs (all_back (R x) xs ys (pairs_head R x (xs ++ ys) h)) (pairs_across R xs ys (pairs_tail R x (xs ++ ys) h))

-- in a lawful journal nothing is late
pub not_late : (entries : List JournalEntry) → IsLawful entries → NothingIsLate entries
not_late entries lawful before between after t m e =
    let From : JournalEntry → Type 0 = λ x. All (MayFollow x) (Received m ∷ after) in
    let across : All From (before ++ (Granted t ∷ between)) = pairs_across MayFollow (before ++ (Granted t ∷ between)) (Received m ∷ after) (subst IsLawful e lawful) in
    All-head (MayFollow (Granted t)) (Received m) after (All-head From (Granted t) between (all_back From before (Granted t ∷ between) across))

-- and what is not free is not filled
not_filled : (b : ℕ) (m : Memory) (places : List Seat) → FloorHolds b m places → FillsUnreadBuffers b m places
not_filled b m places h i k part word j q at lj allowed one =
    let own = h.each i q at in
    let is = at_map_or stock_of places i q no_buffers at in
    let lk : k < b = omega (arith, allowed.0, own.buffers) in
    true≢false (sym allowed.2 ∙ sym (ap (λ (s : SeatBuffers). (buffer_of s k).free) is) ∙ due_not_free m (map stock_of places) (length places) b h.pool i k (at_inside places i q at) lk j lj one)

pub rules_keep_it_law : RulesKeepIt
rules_keep_it_law a h = record {
  on_time = λ i q at. not_late (entries_of q.client) (journals_are_lawful (memory_of (length a.places) a.buffers a.words) a.places h.client i q at);
  unread = not_filled a.buffers (memory_of (length a.places) a.buffers a.words) a.places h.floor;
}
