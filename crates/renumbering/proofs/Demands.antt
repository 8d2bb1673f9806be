-- Each demand, with its proof.
use Rattle.renumbering.specs.Demands.{Demands}
use Rattle.renumbering.proofs.Permutations.{every_number}
use Rattle.renumbering.proofs.Carrying.{renumbers}
use Rattle.renumbering.proofs.Choices.{every_choice, keeping, building}
use Rattle.renumbering.proofs.Books.{agreeing, every_book}
use Rattle.renumbering.proofs.Identity.{leaves, leaves_books}
use Rattle.renumbering.proofs.Examples.{examples}

pub demands : Demands
demands =
    record {
      every_number = every_number;
      renumbers = renumbers;
      every_choice = every_choice;
      keeping = keeping;
      building = building;
      agreeing = agreeing;
      every_book = every_book;
      identity = leaves;
      identity_of_books = leaves_books;
      examples = examples;
    }
