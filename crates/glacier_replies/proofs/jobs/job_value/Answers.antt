use Rattle.std.proofs.lemmas.Result.{IfOk-weaker}
use Rattle.glacier_replies.proofs.jobs.job_value.Goals as goal

pub returns-clause-value : goal.returns-clause-value
returns-clause-value c =
    IfOk-weaker c.object.result _ _ (λ v h. simp (
      c.action_name.ensures,
      c.archive_id.ensures,
      c.archive_tree.ensures,
      c.archive_size.ensures,
      c.is_completed.ensures,
      c.completion_date.ensures,
      c.inventory_size.ensures,
      c.description_text.ensures,
      c.retrieval_range.ensures,
      c.range_tree.ensures,
      c.status_code.ensures,
      c.status_message.ensures,
      c.tier_name.ensures,
    ) at h)
    c.object.ensures.value
