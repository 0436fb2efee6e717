mod DropLaws
