-- The replies.
use Rattle.std.specs.Prelude.{ℕ, List, [], ◌∷◌}
use Rattle.serde_json.specs.Written.{compact_text}
use Rattle.glacier_http.specs.declared.reply.Kind.TheVariants.{Empty, Json}
use Rattle.glacier_http.specs.declared.reply.Reply.{Reply}
use Rattle.glacier_policy.specs.Denials.{arn_of}
use Rattle.glacier_vault.specs.declared.refusal.Refusal.{Refusal}
use Rattle.glacier_vault.specs.declared.rules.Rules.{Rules}
use Rattle.glacier_vault.specs.declared.state.VaultState.{VaultState}
use Rattle.glacier_replies.specs.Bodies.{refusal_data, vault_data}
use Rattle.glacier_replies.specs.Fields.{location_field, tree_field, archive_id_field}
use Rattle.glacier_replies.specs.Paths.{location, archive_id, archive_location}
use Rattle.glacier_replies.specs.Messages.{message_of}
use Rattle.glacier_replies.specs.Refusals.{status_of, code_of}

-- a reply with a JSON body and no field of its own
abbrev pub json_reply : ℕ → List ℕ → Reply
json_reply status body = record { status = status; fields = []; kind = Json; body = body }

-- what a refusal is answered
abbrev pub refused : Refusal → Reply
refused refusal = json_reply (status_of refusal) (compact_text (refusal_data (code_of refusal) (message_of refusal)))

-- what is answered where a vault was made or is there already
abbrev pub created : Rules → List ℕ → Reply
created rules name = record {
  status = 201;
  fields = location_field (location rules.account name) ∷ [];
  kind = Empty;
  body = [];
}

-- what is answered where a vault or an archive was deleted or wasn't there
abbrev pub deleted : Reply
deleted = record { status = 204; fields = []; kind = Empty; body = [] }

-- what is answered where an archive with this number and tree hash was uploaded
abbrev pub uploaded : Rules → List ℕ → ℕ → List ℕ → Reply
uploaded rules name number tree = record {
  status = 201;
  fields =
      location_field (archive_location rules.account name (archive_id number))
      ∷ tree_field tree
      ∷ archive_id_field (archive_id number)
      ∷ [];
  kind = Empty;
  body = [];
}

-- what is answered to the question for a vault
abbrev pub described : Rules → List ℕ → VaultState → Reply
described rules name vault = json_reply 200 (compact_text (vault_data vault (arn_of rules.region rules.account name) name))
