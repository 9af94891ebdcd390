-- An event is read as it is spelled.
use Rattle.std.proofs.Common.{◌≡◌, ℕ, ◌==◌, nat_lt, true, List, ◌++◌, Some, refl, ◌∙◌}
use Rattle.glacier_extents.specs.declared.run.Run.{Run}
use Rattle.glacier_vault.specs.declared.event.Event.{Event}
use Rattle.glacier_vault.specs.declared.event.Event.TheVariants as event
use Rattle.glacier_records.specs.declared.records.Item.{Item}
use Rattle.glacier_records.specs.declared.records.Item.TheVariants as item
use Rattle.glacier_records.specs.Codec.{nothing}
use Rattle.glacier_records.specs.EventFields.{event_kind, event_fields, EventFits, plain, numbered_fields, upload_fields, uploaded, begin_upload_fields, begun_upload, part_fields, part_taken, retrieval_fields, retrieval_begun, inventory_fields, inventory_begun, lock_fields}
use Rattle.glacier_records.specs.Fields.{name_field}
use Rattle.glacier_records.specs.Reading.{event_at}
use Rattle.glacier_records.proofs.ChoiceLemmas.{nothing_sound}
use Rattle.glacier_records.proofs.CodecLemmas.{IsBytes, IsSound, pair_sound}
use Rattle.glacier_records.proofs.FieldLemmas.{name_sound, number_is_sound, index_sound, description_sound, text_sound, leaves_sound, runs_sound, flag_sound, tier_sound, moment_sound}
use Rattle.glacier_records.proofs.KindLemmas.{TookItem, IsKind, fields_found, fields_again, plain_again}
use Rattle.glacier_records.proofs.OptionLemmas.{either_way}

numbered_sound : IsSound numbered_fields
numbered_sound = pair_sound _ _ name_sound number_is_sound

upload_sound : IsSound upload_fields
upload_sound =
    pair_sound _ _ name_sound (pair_sound _ _ number_is_sound (pair_sound _ _ description_sound
    (pair_sound _ _ leaves_sound runs_sound)))

begin_upload_sound : IsSound begin_upload_fields
begin_upload_sound = pair_sound _ _ name_sound (pair_sound _ _ number_is_sound description_sound)

part_sound : IsSound part_fields
part_sound =
    pair_sound _ _ name_sound (pair_sound _ _ number_is_sound (pair_sound _ _ index_sound
    (pair_sound _ _ number_is_sound (pair_sound _ _ leaves_sound runs_sound))))

retrieval_sound : IsSound retrieval_fields
retrieval_sound =
    pair_sound _ _ name_sound (pair_sound _ _ number_is_sound (pair_sound _ _ number_is_sound
    (pair_sound _ _ number_is_sound (pair_sound _ _ tier_sound (pair_sound _ _ moment_sound description_sound)))))

inventory_sound : IsSound inventory_fields
inventory_sound =
    pair_sound _ _ name_sound (pair_sound _ _ flag_sound (pair_sound _ _ tier_sound (pair_sound _ _ moment_sound description_sound)))

lock_sound : IsSound lock_fields
lock_sound = pair_sound _ _ name_sound text_sound

is_1 : IsKind 1 nothing (λ f. plain event.Pass)
is_1 = record { sound = nothing_sound; kind_is = λ f. refl; fits = λ f fits. refl; spelled = λ f. refl }

is_2 : IsKind 2 name_field (λ name. plain (event.CreateVault name))
is_2 = record { sound = name_sound; kind_is = λ f. refl; fits = λ f fits. (fits, refl); spelled = λ f. refl }

is_3 : IsKind 3 name_field (λ name. plain (event.DeleteVault name))
is_3 = record { sound = name_sound; kind_is = λ f. refl; fits = λ f fits. (fits, refl); spelled = λ f. refl }

is_4 : IsKind 4 upload_fields uploaded
is_4 = record { sound = upload_sound; kind_is = λ f. refl; fits = λ f fits. fits; spelled = λ f. refl }

is_5 : IsKind 5 numbered_fields (λ f. plain (event.DeleteArchive f.0 f.1))
is_5 = record { sound = numbered_sound; kind_is = λ f. refl; fits = λ f fits. (fits, refl); spelled = λ f. refl }

is_6 : IsKind 6 begin_upload_fields begun_upload
is_6 = record { sound = begin_upload_sound; kind_is = λ f. refl; fits = λ f fits. (fits, refl); spelled = λ f. refl }

is_7 : IsKind 7 part_fields part_taken
is_7 = record { sound = part_sound; kind_is = λ f. refl; fits = λ f fits. fits; spelled = λ f. refl }

is_8 : IsKind 8 numbered_fields (λ f. plain (event.Complete f.0 f.1))
is_8 = record { sound = numbered_sound; kind_is = λ f. refl; fits = λ f fits. (fits, refl); spelled = λ f. refl }

is_9 : IsKind 9 numbered_fields (λ f. plain (event.Abort f.0 f.1))
is_9 = record { sound = numbered_sound; kind_is = λ f. refl; fits = λ f fits. (fits, refl); spelled = λ f. refl }

is_10 : IsKind 10 retrieval_fields retrieval_begun
is_10 = record { sound = retrieval_sound; kind_is = λ f. refl; fits = λ f fits. (fits, refl); spelled = λ f. refl }

is_11 : IsKind 11 inventory_fields inventory_begun
is_11 = record { sound = inventory_sound; kind_is = λ f. refl; fits = λ f fits. (fits, refl); spelled = λ f. refl }

is_12 : IsKind 12 lock_fields (λ f. plain (event.InitiateLock f.0 f.1))
is_12 = record { sound = lock_sound; kind_is = λ f. refl; fits = λ f fits. (fits, refl); spelled = λ f. refl }

is_13 : IsKind 13 name_field (λ name. plain (event.CompleteLock name))
is_13 = record { sound = name_sound; kind_is = λ f. refl; fits = λ f fits. (fits, refl); spelled = λ f. refl }

is_14 : IsKind 14 name_field (λ name. plain (event.AbortLock name))
is_14 = record { sound = name_sound; kind_is = λ f. refl; fits = λ f fits. (fits, refl); spelled = λ f. refl }

pub event_found : (kind : ℕ) (bytes : List ℕ) (i : Item) (rest : List ℕ) → IsBytes bytes → event_at kind bytes ≡ Some (i, rest)
    → TookItem kind bytes i rest
unfolding event_at
event_found kind bytes i rest are read =
    either_way (kind == 1) _ _ (i, rest) (fields_found kind bytes i rest are 1 nothing _ is_1)
    (either_way (kind == 2) _ _ (i, rest) (fields_found kind bytes i rest are 2 name_field _ is_2)
    (either_way (kind == 3) _ _ (i, rest) (fields_found kind bytes i rest are 3 name_field _ is_3)
    (either_way (kind == 4) _ _ (i, rest) (fields_found kind bytes i rest are 4 upload_fields _ is_4)
    (either_way (kind == 5) _ _ (i, rest) (fields_found kind bytes i rest are 5 numbered_fields _ is_5)
    (either_way (kind == 6) _ _ (i, rest) (fields_found kind bytes i rest are 6 begin_upload_fields _ is_6)
    (either_way (kind == 7) _ _ (i, rest) (fields_found kind bytes i rest are 7 part_fields _ is_7)
    (either_way (kind == 8) _ _ (i, rest) (fields_found kind bytes i rest are 8 numbered_fields _ is_8)
    (either_way (kind == 9) _ _ (i, rest) (fields_found kind bytes i rest are 9 numbered_fields _ is_9)
    (either_way (kind == 10) _ _ (i, rest) (fields_found kind bytes i rest are 10 retrieval_fields _ is_10)
    (either_way (kind == 11) _ _ (i, rest) (fields_found kind bytes i rest are 11 inventory_fields _ is_11)
    (either_way (kind == 12) _ _ (i, rest) (fields_found kind bytes i rest are 12 lock_fields _ is_12)
    (either_way (kind == 13) _ _ (i, rest) (fields_found kind bytes i rest are 13 name_field _ is_13)
    (either_way (kind == 14) _ _ (i, rest) (fields_found kind bytes i rest are 14 name_field _ is_14)
    (λ none. absurd (cc none))))))))))))))) read

pub event_again : (e : Event) (runs : List Run) (rest : List ℕ) → EventFits e runs
    → event_at (event_kind e) (event_fields e runs ++ rest) ≡ Some (item.Event e runs, rest)
unfolding event_at
event_again event.Pass runs rest fits =
    fields_again nothing nothing_sound (λ f. plain event.Pass) tt rest tt
    ∙ plain_again event.Pass runs rest fits
event_again (event.CreateVault name) runs rest fits =
    fields_again name_field name_sound (λ name. plain (event.CreateVault name)) name rest fits.0
    ∙ plain_again (event.CreateVault name) runs rest fits.1
event_again (event.DeleteVault name) runs rest fits =
    fields_again name_field name_sound (λ name. plain (event.DeleteVault name)) name rest fits.0
    ∙ plain_again (event.DeleteVault name) runs rest fits.1
event_again (event.Upload name size description leaves) runs rest fits =
    fields_again upload_fields upload_sound uploaded (name, (size, (description, (leaves, runs)))) rest fits
event_again (event.DeleteArchive name archive) runs rest fits =
    fields_again numbered_fields numbered_sound (λ f. plain (event.DeleteArchive f.0 f.1)) (name, archive) rest fits.0
    ∙ plain_again (event.DeleteArchive name archive) runs rest fits.1
event_again (event.BeginUpload name part_size description) runs rest fits =
    fields_again begin_upload_fields begin_upload_sound begun_upload (name, (part_size, description)) rest fits.0
    ∙ plain_again (event.BeginUpload name part_size description) runs rest fits.1
event_again (event.Part name upload index size leaves) runs rest fits =
    fields_again part_fields part_sound part_taken (name, (upload, (index, (size, (leaves, runs))))) rest fits
event_again (event.Complete name upload) runs rest fits =
    fields_again numbered_fields numbered_sound (λ f. plain (event.Complete f.0 f.1)) (name, upload) rest fits.0
    ∙ plain_again (event.Complete name upload) runs rest fits.1
event_again (event.Abort name upload) runs rest fits =
    fields_again numbered_fields numbered_sound (λ f. plain (event.Abort f.0 f.1)) (name, upload) rest fits.0
    ∙ plain_again (event.Abort name upload) runs rest fits.1
event_again (event.BeginRetrieval name archive first end tier ready description) runs rest fits =
    fields_again retrieval_fields retrieval_sound retrieval_begun (name, (archive, (first, (end, (tier, (ready, description)))))) rest fits.0
    ∙ plain_again (event.BeginRetrieval name archive first end tier ready description) runs rest fits.1
event_again (event.BeginInventory name csv tier ready description) runs rest fits =
    fields_again inventory_fields inventory_sound inventory_begun (name, (csv, (tier, (ready, description)))) rest fits.0
    ∙ plain_again (event.BeginInventory name csv tier ready description) runs rest fits.1
event_again (event.InitiateLock name policy) runs rest fits =
    fields_again lock_fields lock_sound (λ f. plain (event.InitiateLock f.0 f.1)) (name, policy) rest fits.0
    ∙ plain_again (event.InitiateLock name policy) runs rest fits.1
event_again (event.CompleteLock name) runs rest fits =
    fields_again name_field name_sound (λ name. plain (event.CompleteLock name)) name rest fits.0
    ∙ plain_again (event.CompleteLock name) runs rest fits.1
event_again (event.AbortLock name) runs rest fits =
    fields_again name_field name_sound (λ name. plain (event.AbortLock name)) name rest fits.0
    ∙ plain_again (event.AbortLock name) runs rest fits.1

pub event_small : (e : Event) → nat_lt (event_kind e) 32 ≡ true
event_small event.Pass = refl
event_small (event.CreateVault name) = refl
event_small (event.DeleteVault name) = refl
event_small (event.Upload name size description leaves) = refl
event_small (event.DeleteArchive name archive) = refl
event_small (event.BeginUpload name part_size description) = refl
event_small (event.Part name upload index size leaves) = refl
event_small (event.Complete name upload) = refl
event_small (event.Abort name upload) = refl
event_small (event.BeginRetrieval name archive first end tier ready description) = refl
event_small (event.BeginInventory name csv tier ready description) = refl
event_small (event.InitiateLock name policy) = refl
event_small (event.CompleteLock name) = refl
event_small (event.AbortLock name) = refl
