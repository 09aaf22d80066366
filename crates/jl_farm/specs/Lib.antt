-- `Reports` is what contracts cite; `Queued`, the rule of the queue of jobs, and `Work` are means of proof.
pub mod Reports
pub mod ForProofs
