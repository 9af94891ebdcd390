-- The replies to what is asked of jobs.
use Rattle.std.specs.Prelude.{ℕ, List, [], ◌∷◌, ◌++◌, Option, Some, None}
use Rattle.serde_json.specs.Written.{compact_text}
use Rattle.glacier_http.specs.declared.reply.Kind.TheVariants.{Empty, Octets}
use Rattle.glacier_http.specs.declared.reply.Reply.{Reply}
use Rattle.glacier_policy.specs.Denials.{arn_of}
use Rattle.glacier_vault.specs.declared.job.Job.{Job}
use Rattle.glacier_vault.specs.declared.rules.Rules.{Rules}
use Rattle.glacier_replies.specs.Fields.{location_field, job_id_field, tree_fields, range_fields}
use Rattle.glacier_replies.specs.Jobs.{job_data}
use Rattle.glacier_replies.specs.Paths.{job_id, job_location}
use Rattle.glacier_replies.specs.Replies.{json_reply}

-- what is answered where a job with this number was begun
abbrev pub begun : Rules → List ℕ → ℕ → Reply
begun rules name number = record {
  status = 202;
  fields = location_field (job_location rules.account name (job_id number)) ∷ job_id_field (job_id number) ∷ [];
  kind = Empty;
  body = [];
}

-- what is answered to the question for a job; an inventory that is done has so many bytes
abbrev pub shown_job : Rules → List ℕ → ℕ → Job → ℕ → Reply
shown_job rules name number job bytes =
    json_reply 200 (compact_text (job_data (arn_of rules.region rules.account name) number job bytes))

-- OK, or Partial Content where a range is asked for
abbrev pub output_status : Option (ℕ × ℕ) → ℕ
output_status None = 200
output_status (Some range) = 206

-- what goes before the bytes of an archive that a job got: of an output of so many bytes this range, first and last,
-- if one is asked for, with the tree hash of what is sent, where it has one
abbrev pub output : Option (ℕ × ℕ) → ℕ → Option (List ℕ) → Reply
output range length tree = record {
  status = output_status range;
  fields = tree_fields tree ++ range_fields range length;
  kind = Octets;
  body = [];
}
