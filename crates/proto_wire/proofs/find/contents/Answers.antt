use Rattle.std.proofs.Common.{List, ℕ, Bor, [], ◌∷◌, ◌++◌, map, ap, sym, ◌∙◌}
use Rattle.std.specs.Global.{Vec}
use Rattle.std.proofs.lemmas.List.{map_push}
use Rattle.proto_wire.specs.Field.{field_view, bytes_of}
use Rattle.proto_wire.proofs.Finds.{one_more, no_more}
use Rattle.proto_wire.proofs.find.contents.Goals as goal
use Rattle.proto_wire.proofs.find.contents.Goals.{in-Some+in_ok-push, in_default}

pub fields-preserved : goal.fields-preserved
fields-preserved c =
    elim c.match-bytes_in.branch [
      | in-Some+in_ok-push w ↦
          ap (λ (v : Vec (Bor (List ℕ))). map (λ b. b.now) v.items) w.found-is ∙ ap (map (λ (b : Bor (List ℕ)). b.now)) w.in_ok-push.ensures.items ∙ map_push (λ (b : Bor (List ℕ)). b.now) c.fields.found.items w.in-Some.content
          ∙ ap (λ (contents : List (List ℕ)). contents ++ w.in-Some.content.now ∷ []) c.fields.invariant
          ∙ sym (one_more (bytes_of c.args.number) field_view c.as_slice-field-items.result.now c.fields.field-index _ w.in-Some.content.now c.fields-test.true (sym w.in-Some.ensures))
      | in_default w ↦
          ap (λ (v : Vec (Bor (List ℕ))). map (λ b. b.now) v.items) w.found-is ∙ c.fields.invariant ∙ sym (no_more (bytes_of c.args.number) field_view c.as_slice-field-items.result.now c.fields.field-index _ c.fields-test.true (sym w.in_default.ensures))
    ]
