-- The line of an update, as it is made.
use Rattle.std.proofs.Common.{◌≡◌, ℕ, ◌+◌, ◌<◌, Bool, true, false, sym, ap, ◌∙◌, cond, List, [], ◌∷◌, ◌++◌, get_or, codes}
use Rattle.std.specs.List.{flat_map, range_with_len, All}
use Rattle.std.proofs.Math.Path.{fun_ext}
use Rattle.std.proofs.lemmas.Grind.{flat_map-append}
use Rattle.std.proofs.lemmas.List.{append_assoc, append-nil}
use Rattle.kit_rules.specs.declared.table.Federate.{Federate}
use Rattle.kit_rules.specs.Parts.{nobody}
use Rattle.kit_rules.specs.Delivery.{has_bit}
use Rattle.kit_regions.specs.declared.region.Update.{Update}
use Rattle.kit_regions.specs.declared.region.Subscription.{Subscription}
use Rattle.kit_regions.specs.Plan.{Plan}
use Rattle.kit_regions.specs.Overlap.{mask_of}
use Rattle.kit_regions.specs.Text.{name_where, names_where, region_head, region_line}
use Rattle.kit_regions.proofs.Growing.{range_more}
use Rattle.kit_regions.proofs.Receivers.{masks_are_subscribers_law}

flat_more : (f : ℕ → List ℕ) (n : ℕ) → flat_map f (range_with_len 0 (n + 1)) ≡ flat_map f (range_with_len 0 n) ++ f n
flat_more f n = ap (flat_map f) (range_more n) ∙ flat_map-append f (range_with_len 0 n) (n ∷ []) ∙ ap (λ xs. flat_map f (range_with_len 0 n) ++ xs) (append-nil (f n))

one_name : (out name : List ℕ) (b : Bool) → cond b (out ++ codes " " ++ name) out ≡ out ++ cond b (codes " " ++ name) []
one_name out name true = append_assoc out (codes " ") name
one_name out name false = sym (append-nil out)

-- one more name, where its federate passes
pub names_more : (t : ℕ → Bool) (fs : List Federate) (j : ℕ) (name before out after : List ℕ) (b : Bool) → t j ≡ b → name ≡ (get_or fs j nobody).name
    → out ≡ before ++ flat_map (name_where t fs) (range_with_len 0 j) → after ≡ cond b (out ++ codes " " ++ name) out → after ≡ before ++ flat_map (name_where t fs) (range_with_len 0 (j + 1))
names_more t fs j name before out after b is called was made =
    let some = flat_map (name_where t fs) (range_with_len 0 j) in
    made ∙ one_name out name b
    ∙ ap (λ b. out ++ cond b (codes " " ++ name) []) (sym is)
    ∙ ap (λ n. out ++ cond (t j) (codes " " ++ n) []) called
    ∙ ap (λ xs. xs ++ name_where t fs j) was
    ∙ append_assoc before some (name_where t fs j)
    ∙ ap (λ xs. before ++ xs) (sym (flat_more (name_where t fs) j))

-- the head, the names and the end of a line
pub line_made : (plan : Plan) (u : Update) (before head names line : List ℕ) (mask : ℕ) (fs : List Federate) → All (λ (s : Subscription). s.federate < 16) plan.subscriptions
    → head ≡ before ++ region_head plan u → mask ≡ mask_of plan.subscriptions u → fs ≡ plan.federates → names ≡ head ++ names_where (has_bit mask) fs → line ≡ names ++ codes "\n"
    → line ≡ before ++ region_line plan u
line_made plan u before head names line mask fs few h m f n l =
    let own = names_where (has_bit (mask_of plan.subscriptions u)) plan.federates in
    l ∙ ap (λ xs. xs ++ codes "\n") (n ∙ ap (λ xs. xs ++ names_where (has_bit mask) fs) h ∙ ap (λ m. before ++ region_head plan u ++ names_where (has_bit m) fs) m ∙ ap (λ fs. before ++ region_head plan u ++ names_where (has_bit (mask_of plan.subscriptions u)) fs) f)
    ∙ ap (λ xs. xs ++ codes "\n") (append_assoc before (region_head plan u) own)
    ∙ append_assoc before (region_head plan u ++ own) (codes "\n")
    ∙ ap (λ t. before ++ (region_head plan u ++ names_where t plan.federates ++ codes "\n")) (fun_ext (λ j. masks_are_subscribers_law plan.subscriptions u j few))
