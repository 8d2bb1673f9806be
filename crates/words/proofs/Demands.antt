-- Every demand of `specs/Demands`, each by its law.
use Rattle.words.specs.Demands.{Demands}
use Rattle.words.proofs.Membership.{has_minus, has_first_vars, ext}
use Rattle.words.proofs.Lowest.{lowest_is, lowest_first}
use Rattle.words.proofs.Count.{lowest_trailing}

pub demands : Demands
demands =
    record {
      lowest_member = λ x n. let l = lowest_is x n in record { var = l.0; word = l.1; member = l.2; none_below = l.3 };
      trailing_zeros = lowest_trailing;
      difference = has_minus;
      first_variables = has_first_vars;
      same_members = ext;
      listed_members = lowest_first;
    }
